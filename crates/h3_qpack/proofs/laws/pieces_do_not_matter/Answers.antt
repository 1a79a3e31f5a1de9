use Rattle.h3_qpack.specs.InstructionLaws.{read_pieces}
use Rattle.h3_qpack.proofs.laws.pieces_do_not_matter.Goals as goal

pub returns : goal.returns
returns c = λ old mid new bytes more left rest. read_pieces old mid new bytes more left rest
