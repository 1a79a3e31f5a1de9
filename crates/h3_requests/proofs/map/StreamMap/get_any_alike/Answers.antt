-- The stream is under way, or over, or not there.
use Rattle.std.proofs.Common.{Some, None, sym, ◌∙◌, ap}
use Rattle.std.specs.Prelude.{option_map}
use Rattle.h3_requests.specs.Over.{codeless}
use Rattle.h3_requests.proofs.Found.{under}
use Rattle.h3_requests.proofs.map.StreamMap.get_any_alike.Goals as goal

pub returns-in-Some : goal.returns-in-Some
returns-in-Some c =
    ap (option_map codeless) (sym (under c.args.self.now c.into_inner.result c.args.id (Some c.in-Some.stream.now) c.into_inner.ensures.value c.into_inner.ensures.bound c.in-Some.ensures))

pub returns-in-None : goal.returns-in-None
returns-in-None c =
    c.get_alike.ensures ∙ ap (option_map codeless) (sym (under c.args.self.now c.into_inner.result c.args.id None c.into_inner.ensures.value c.into_inner.ensures.bound c.in-None.ensures))
