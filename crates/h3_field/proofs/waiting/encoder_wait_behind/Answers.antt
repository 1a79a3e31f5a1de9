use Rattle.std.proofs.Common.{sym, ◌∙◌}
use Rattle.h3_field.proofs.WaitsOn.{encoder_goes_on}
use Rattle.h3_field.proofs.waiting.encoder_wait_behind.Goals as goal

pub returns-in-Some : goal.returns-in-Some
returns-in-Some c front is all = encoder_goes_on c.args.before c.in-Some.wait front c.args.came.now c.args.unread.now (sym c.behind.ensures ∙ c.in-Some.is) is all
