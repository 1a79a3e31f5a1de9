use Rattle.h3_table.specs.TableLaws.{section_size-table}
use Rattle.h3_qpack.proofs.laws.no_table_passes_its_capacity.Goals as goal

pub returns : goal.returns
returns c = λ capacity inserted. section_size-table capacity inserted
