-- Whole schedules at two ends, beside the same ends without strict messages.
use Rattle.std.proofs.Common.{◌≡◌, Bool, true, false, if◌then◌else◌, List, [], ◌∷◌, ◌++◌, refl, ap, sym, subst, ◌∙◌}
use Rattle.std.specs.Prelude.{◌||◌}
use Rattle.std.specs.List.{list_any}
use Rattle.h3_world.specs.Ends.{Ends, answered, answers_of_ends, ends_after}
use Rattle.h3_world.specs.declared.event.Answer.{Answer}
use Rattle.h3_world.specs.declared.event.Event.{Event}
use Rattle.h3_strict.specs.PlainEnds.{AreBounded, FewWaitAt, IsFront, NoneJudges, RunsPlainly, StepsPlainly, Alike, Judges, RefusesMalformed, answers_without_malformed, asks_strictly, before_judged, finds_fault, is_malformed_refusal, judges, plain_ends, without_malformed}
use Rattle.h3_strict.proofs.AnnouncedEnds.{asks_stay}
use Rattle.h3_strict.proofs.PlainSteps.{every_step}

-- an event of a schedule, before others
refused_on : (ends : Ends) (e : Event) (events : List Event) → is_malformed_refusal (answered ends e).0 ≡ true → (answered ends e).1 ≡ ends → RunsPlainly (answered ends e).1 events → RunsPlainly ends (e ∷ events)
refused_on ends e events told same h = record {
  answers =
      ap (λ b. if b then answers_without_malformed later else a ∷ answers_without_malformed later) told ∙ h.answers
      ∙ ap (λ s. answers_of_ends (plain_ends s) (without_malformed events later)) same ∙ sym (ap (answers_of_ends (plain_ends ends)) events_are);
  leads = h.leads ∙ ap (λ s. ends_after (plain_ends s) (without_malformed events later)) same ∙ sym (ap (ends_after (plain_ends ends)) events_are);
}
  where
    a : Answer
    a = (answered ends e).0

    later : List Answer
    later = answers_of_ends (answered ends e).1 events

    events_are : without_malformed (e ∷ events) (a ∷ later) ≡ without_malformed events later
    events_are = ap (λ b. if b then without_malformed events later else e ∷ without_malformed events later) told

alike_on : (ends : Ends) (e : Event) (events : List Event) → is_malformed_refusal (answered ends e).0 ≡ false → answered (plain_ends ends) e ≡ ((answered ends e).0, plain_ends (answered ends e).1)
    → RunsPlainly (answered ends e).1 events → RunsPlainly ends (e ∷ events)
alike_on ends e events told same h = record {
  answers =
      ap (λ b. if b then answers_without_malformed later else a ∷ answers_without_malformed later) told ∙ ap (λ l. a ∷ l) h.answers
      ∙ sym (ap (λ x. x.0 ∷ answers_of_ends x.1 others) same) ∙ sym (ap (answers_of_ends (plain_ends ends)) events_are);
  leads = h.leads ∙ sym (ap (λ x. ends_after x.1 others) same) ∙ sym (ap (ends_after (plain_ends ends)) events_are);
}
  where
    a : Answer
    a = (answered ends e).0

    later : List Answer
    later = answers_of_ends (answered ends e).1 events

    others : List Event
    others = without_malformed events later

    events_are : without_malformed (e ∷ events) (a ∷ later) ≡ e ∷ others
    events_are = ap (λ b. if b then others else e ∷ others) told

step_on : (ends : Ends) (e : Event) (events : List Event) → (judges ends e ≡ true → (FewWaitAt ends → finds_fault (asks_strictly ends) (answered ends e).0 ≡ true) → ⊥) → StepsPlainly ends e → RunsPlainly (answered ends e).1 events → RunsPlainly ends (e ∷ events)
step_on ends e events none (RefusesMalformed told same) h = refused_on ends e events told same h
step_on ends e events none (Judges judged told) h = absurd (none judged told)
step_on ends e events none (Alike told same) h = alike_on ends e events told same h

not_both : (b : Bool) → b ≡ false → b ≡ true → ⊥
not_both b none is = clash (sym none ∙ is)
  where
    clash : false ≡ true → ⊥
    clash x = cc

pub neither : (first rest : Bool) → (first || rest) ≡ false → (first ≡ false) × (rest ≡ false)
neither true rest h = absurd (cc)
neither false rest h = (refl, h)

-- a schedule in which no pull finds a fault
module _ (few : (ends : Ends) → AreBounded ends → FewWaitAt ends) (keeps : (ends : Ends) (e : Event) → AreBounded ends → AreBounded (answered ends e).1) where
  runs_with : (strict : Bool) (ends : Ends) (events : List Event) → asks_strictly ends ≡ strict → AreBounded ends → list_any (finds_fault strict) (answers_of_ends ends events) ≡ false → RunsPlainly ends events
  runs_with strict ends [] asks bounded h = record { answers = refl; leads = refl }
  runs_with strict ends (e ∷ events) asks bounded h =
      let a = (answered ends e).0 in
      let parts = neither (finds_fault strict a) (list_any (finds_fault strict) (answers_of_ends (answered ends e).1 events)) h in
      step_on ends e events (λ judged told. not_both (finds_fault strict a) parts.0 (subst (λ s. finds_fault s a ≡ true) asks (told (few ends bounded)))) (every_step ends e)
      (runs_with strict (answered ends e).1 events (asks_stay ends e ∙ asks) (keeps ends e bounded) parts.1)

  pub runs_faultless : (ends : Ends) (events : List Event) → AreBounded ends → list_any (finds_fault (asks_strictly ends)) (answers_of_ends ends events) ≡ false → RunsPlainly ends events
  runs_faultless ends events bounded h = runs_with (asks_strictly ends) ends events refl bounded h

-- a schedule in which no event judges
pub runs_plainly : (ends : Ends) (events : List Event) → NoneJudges ends events → RunsPlainly ends events
runs_plainly ends [] h = record { answers = refl; leads = refl }
runs_plainly ends (e ∷ events) h = step_on ends e events (λ judged told. not_both (judges ends e) h.0 judged) (every_step ends e) (runs_plainly (answered ends e).1 events h.1)

-- the events in front of the first that does
none_if : (ends : Ends) (e : Event) (events : List Event) (b : Bool) → judges ends e ≡ b → NoneJudges (answered ends e).1 events → NoneJudges ends (if b then [] else e ∷ events)
none_if ends e events true is h = tt
none_if ends e events false is h = (is, h)

pub none_before : (ends : Ends) (events : List Event) → NoneJudges ends (before_judged ends events)
none_before ends [] = tt
none_before ends (e ∷ events) = none_if ends e (before_judged (answered ends e).1 events) (judges ends e) refl (none_before (answered ends e).1 events)

pub all_before : (ends : Ends) (events : List Event) → NoneJudges ends events → before_judged ends events ≡ events
all_before ends [] h = refl
all_before ends (e ∷ events) h = ap (λ b. if b then [] else e ∷ before_judged (answered ends e).1 events) h.0 ∙ ap (λ l. e ∷ l) (all_before (answered ends e).1 events h.1)

front_if : (ends : Ends) (e : Event) (events front : List Event) (b : Bool) → IsFront (answered ends e).1 events front → IsFront ends (e ∷ events) (if b then [] else e ∷ front)
front_if ends e events front true h = record { others = e ∷ events; is = refl; answers = refl }
front_if ends e events front false h = record { others = h.others; is = ap (λ l. e ∷ l) h.is; answers = ap (λ l. (answered ends e).0 ∷ l) h.answers }

pub front_before : (ends : Ends) (events : List Event) → IsFront ends events (before_judged ends events)
front_before ends [] = record { others = []; is = refl; answers = refl }
front_before ends (e ∷ events) = front_if ends e events (before_judged (answered ends e).1 events) (judges ends e) (front_before (answered ends e).1 events)

-- one more event
pub none_more : (ends : Ends) (before : List Event) (e : Event) → NoneJudges ends before → judges (ends_after ends before) e ≡ false → NoneJudges ends (before ++ e ∷ [])
none_more ends [] e h none = (none, tt)
none_more ends (first ∷ before) e h none = (h.0, none_more (answered ends first).1 before e h.1 none)
