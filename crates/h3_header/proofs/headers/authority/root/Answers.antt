use Rattle.h3_header.proofs.PathLemmas.{IsOk-from_gives, IsPathInput_slash}
use Rattle.h3_header.proofs.headers.authority.root.Goals as goal

pub unwrap-requires : goal.unwrap-requires
unwrap-requires c = IsOk-from_gives c.from_static.result _ _ c.from_static.ensures IsPathInput_slash
