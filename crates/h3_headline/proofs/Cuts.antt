-- Runs, cut in two and event by event.
use Rattle.std.proofs.Common.{◌≡◌, false, List, [], ◌∷◌, ◌++◌, refl, ap, ◌∙◌}
use Rattle.std.specs.Prelude.{◌||◌}
use Rattle.std.specs.List.{list_any}
use Rattle.h3_world.specs.Setup.{Setup}
use Rattle.h3_world.specs.declared.event.Event.{Event}
use Rattle.h3_world.specs.declared.event.Answer.{Answer}
use Rattle.h3_world.specs.Headline.{Happens, is_connection_fault}
use Rattle.h3_world.specs.Run.{Run}
use Rattle.h3_world.specs.World.{World}
use Rattle.h3_headline.specs.RunCut.{IsCutAt}

pub no_fault : (setup : Setup) (w new : World) (events : List Event) (answers : List Answer) → Run (Happens setup) w events answers new → list_any is_connection_fault answers ≡ false
no_fault setup w new [] [] run = refl
no_fault setup w new (e ∷ es) (a ∷ later) run = ap (λ b. b || list_any is_connection_fault later) run.1.no_connection_fault ∙ no_fault setup run.0 new es later run.2
no_fault setup w new [] (a ∷ later) run = absurd run
no_fault setup w new (e ∷ es) [] run = absurd run

pub cut_at : (setup : Setup) (w end : World) (before after : List Event) (answers : List Answer) → Run (Happens setup) w (before ++ after) answers end → IsCutAt setup w before after answers end
cut_at setup w end [] after answers run = record { given = []; later = answers; mid = w; is = refl; first = refl; rest = run }
cut_at setup w end (e ∷ before) after (a ∷ answers) run =
    let r = cut_at setup run.0 end before after answers run.2 in
    record { given = a ∷ r.given; later = r.later; mid = r.mid; is = ap (λ l. a ∷ l) r.is; first = (run.0, run.1, r.first); rest = r.rest }
cut_at setup w end (e ∷ before) after [] run = absurd run
