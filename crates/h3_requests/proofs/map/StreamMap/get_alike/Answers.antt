-- The stream is found in the row, or else wherever it is.
use Rattle.std.proofs.Common.{Some, sym, ap}
use Rattle.std.specs.Prelude.{option_map}
use Rattle.h3_requests.specs.Over.{codeless}
use Rattle.h3_requests.proofs.Found.{under}
use Rattle.h3_requests.proofs.map.StreamMap.get_alike.Goals as goal

pub returns-in-Some : goal.returns-in-Some
returns-in-Some c =
    ap (option_map codeless) (sym (under c.args.self.now c.into_inner.result c.args.id (Some c.in-Some.stream.now) c.into_inner.ensures.value c.into_inner.ensures.bound (sym c.in-Some.ensures)))
