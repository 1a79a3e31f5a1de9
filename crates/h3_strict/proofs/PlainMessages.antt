-- What was sent and handed out, by the answers without the sends that were refused as malformed: the same.
use Rattle.std.proofs.Common.{◌≡◌, ℕ, Bool, true, false, if◌then◌else◌, List, [], ◌∷◌, ◌++◌, refl, ap, sym, ◌∙◌}
use Rattle.std.specs.Prelude.{◌||◌}
use Rattle.std.specs.List.{AllByRecursion, list_any}
use Rattle.h3_proto.specs.declared.stream.Side.{Side}
use Rattle.h3_headline.specs.Messages.{MessageContent, all_of, any_of, ended_in, finished_in, has_finished, has_pulled_end, pulled, pulled_in, sent, sent_in}
use Rattle.h3_connection.specs.declared.event.Refusal.TheVariants as refusal
use Rattle.h3_world.specs.Headline.{is_connection_fault}
use Rattle.h3_world.specs.Sendable.{IsSendable}
use Rattle.h3_world.specs.declared.event.Answer.{Answer}
use Rattle.h3_world.specs.declared.event.Event.{Event}
use Rattle.h3_world.specs.Setup.{Setup}
use Rattle.h3_strict.specs.MalformedLaws.{ends_none, finishes_none, pulls_none, refused_is, sends_none}
use Rattle.h3_strict.specs.PlainEnds.{answers_without_malformed, is_malformed_refusal, without_malformed}

-- over all events
all_if : (f : Event → Answer → List MessageContent) (e : Event) (a : Answer) (events : List Event) (answers : List Answer) (b : Bool) → (b ≡ true → f e a ≡ [])
    → all_of f (without_malformed events answers) (answers_without_malformed answers) ≡ all_of f events answers
    → all_of f (if b then without_malformed events answers else e ∷ without_malformed events answers) (if b then answers_without_malformed answers else a ∷ answers_without_malformed answers)
    ≡ f e a ++ all_of f events answers
all_if f e a events answers true none h = h ∙ sym (ap (λ l. l ++ all_of f events answers) (none refl))
all_if f e a events answers false none h = ap (λ l. f e a ++ l) h

all_without : (f : Event → Answer → List MessageContent) → ((e : Event) (a : Answer) → is_malformed_refusal a ≡ true → f e a ≡ []) → (events : List Event) (answers : List Answer)
    → all_of f (without_malformed events answers) (answers_without_malformed answers) ≡ all_of f events answers
all_without f none [] [] = refl
all_without f none [] (a ∷ answers) = refl
all_without f none (e ∷ events) [] = refl
all_without f none (e ∷ events) (a ∷ answers) = all_if f e a events answers (is_malformed_refusal a) (none e a) (all_without f none events answers)

any_if : (f : Event → Answer → Bool) (e : Event) (a : Answer) (events : List Event) (answers : List Answer) (b : Bool) → (b ≡ true → f e a ≡ false)
    → any_of f (without_malformed events answers) (answers_without_malformed answers) ≡ any_of f events answers
    → any_of f (if b then without_malformed events answers else e ∷ without_malformed events answers) (if b then answers_without_malformed answers else a ∷ answers_without_malformed answers)
    ≡ (f e a || any_of f events answers)
any_if f e a events answers true none h = h ∙ sym (ap (λ l. l || any_of f events answers) (none refl))
any_if f e a events answers false none h = ap (λ l. f e a || l) h

any_without : (f : Event → Answer → Bool) → ((e : Event) (a : Answer) → is_malformed_refusal a ≡ true → f e a ≡ false) → (events : List Event) (answers : List Answer)
    → any_of f (without_malformed events answers) (answers_without_malformed answers) ≡ any_of f events answers
any_without f none [] [] = refl
any_without f none [] (a ∷ answers) = refl
any_without f none (e ∷ events) [] = refl
any_without f none (e ∷ events) (a ∷ answers) = any_if f e a events answers (is_malformed_refusal a) (none e a) (any_without f none events answers)

module _ (side : Side) (id : ℕ) (events : List Event) (answers : List Answer) where
  pub same_sent : sent side id (without_malformed events answers) (answers_without_malformed answers) ≡ sent side id events answers
  same_sent = all_without (sent_in side id) (λ e a is. let r = refused_is a is in ap (sent_in side id e) r.1 ∙ sends_none (refusal.Malformed r.0) side id e) events answers

  pub same_pulled : pulled side id (without_malformed events answers) (answers_without_malformed answers) ≡ pulled side id events answers
  same_pulled = all_without (pulled_in side id) (λ e a is. let r = refused_is a is in ap (pulled_in side id e) r.1 ∙ pulls_none (refusal.Malformed r.0) side id e) events answers

  pub same_finished : has_finished side id (without_malformed events answers) (answers_without_malformed answers) ≡ has_finished side id events answers
  same_finished = any_without (finished_in side id) (λ e a is. let r = refused_is a is in ap (finished_in side id e) r.1 ∙ finishes_none (refusal.Malformed r.0) side id e) events answers

  pub same_ended : has_pulled_end side id (without_malformed events answers) (answers_without_malformed answers) ≡ has_pulled_end side id events answers
  same_ended = any_without (ended_in side id) (λ e a is. let r = refused_is a is in ap (ended_in side id e) r.1 ∙ ends_none (refusal.Malformed r.0) side id e) events answers

-- no fault is lost
faults_if : (a : Answer) (answers : List Answer) (b : Bool) → (b ≡ true → is_connection_fault a ≡ false) → list_any is_connection_fault (answers_without_malformed answers) ≡ list_any is_connection_fault answers
    → list_any is_connection_fault (if b then answers_without_malformed answers else a ∷ answers_without_malformed answers) ≡ (is_connection_fault a || list_any is_connection_fault answers)
faults_if a answers true none h = h ∙ sym (ap (λ l. l || list_any is_connection_fault answers) (none refl))
faults_if a answers false none h = ap (λ l. is_connection_fault a || l) h

pub same_faults : (answers : List Answer) → list_any is_connection_fault (answers_without_malformed answers) ≡ list_any is_connection_fault answers
same_faults [] = refl
same_faults (a ∷ answers) = faults_if a answers (is_malformed_refusal a) (λ is. ap is_connection_fault (refused_is a is).1) (same_faults answers)

-- what is left may be sent
sendable_if : (setup : Setup) (e : Event) (events : List Event) (b : Bool) → IsSendable setup e → AllByRecursion (IsSendable setup) events → AllByRecursion (IsSendable setup) (if b then events else e ∷ events)
sendable_if setup e events true first h = h
sendable_if setup e events false first h = (first, h)

pub sendable_left : (setup : Setup) (events : List Event) (answers : List Answer) → AllByRecursion (IsSendable setup) events → AllByRecursion (IsSendable setup) (without_malformed events answers)
sendable_left setup [] [] h = tt
sendable_left setup [] (a ∷ answers) h = tt
sendable_left setup (e ∷ events) [] h = tt
sendable_left setup (e ∷ events) (a ∷ answers) h = sendable_if setup e (without_malformed events answers) (is_malformed_refusal a) h.0 (sendable_left setup events answers h.1)
