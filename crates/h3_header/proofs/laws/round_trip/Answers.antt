use Rattle.std.proofs.lemmas.Result.{IfErr-weaker}
use Rattle.h3_header.specs.ReadLaws.{only_memory}
use Rattle.h3_header.proofs.laws.round_trip.Goals as goal

pub returns-clause-err : goal.returns-clause-err
returns-clause-err c = IfErr-weaker c.of_list.result _ _ (λ e why. only_memory _ _ _ e (c.in-Ok.ensures.reads_back c.args.any c.requires).0 why) c.of_list.ensures.err
