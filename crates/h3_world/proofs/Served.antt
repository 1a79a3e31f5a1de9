-- What the machine answers is a step that is allowed, and exact.
use Rattle.std.proofs.Common.{◌≡◌, ℕ, ◌<◌, ◌≤◌, Bool, true, false, List, refl, sym, ◌∙◌, subst, arith, nat_lt, if◌then◌else◌, Option, Some, None}
use Rattle.std.specs.Prelude.{MatchOption, ◌==◌}
use Rattle.std.proofs.lemmas.Grind.{common_steps}
use Rattle.h3_field.specs.Field.{Field, section_size}
use Rattle.h3_header.specs.Head.{Head as Fields}
use Rattle.h3_header.specs.Reads.{head_of_fields}
use Rattle.h3_proto.specs.declared.stream.Side.{Side}
use Rattle.h3_connection.specs.Announcing.{section_of}
use Rattle.h3_connection.specs.OwnIds.{other}
use Rattle.h3_connection.specs.declared.event.Item.{Item}
use Rattle.h3_connection.specs.declared.event.Item.TheVariants as item
use Rattle.h3_connection.specs.declared.event.Pull.{Pull}
use Rattle.h3_connection.specs.declared.event.Pull.TheVariants as pull
use Rattle.h3_connection.specs.declared.event.Refusal.{Refusal}
use Rattle.h3_world.specs.declared.event.Event.{Event}
use Rattle.h3_world.specs.declared.event.Event.TheVariants as event
use Rattle.h3_world.specs.declared.event.Answer.{Answer}
use Rattle.h3_world.specs.declared.event.Answer.TheVariants as answer
use Rattle.h3_world.specs.Setup.{Setup, announced_at}
use Rattle.h3_world.specs.Flow.{Flow, Part, Section}
use Rattle.h3_world.specs.Flow.Part.{Interim, Head, Body, Trailer, End}
use Rattle.h3_world.specs.World.{World, Party, party}
use Rattle.h3_world.specs.Came.{insertions_came}
use Rattle.h3_world.specs.Streams.{flow}
use Rattle.h3_world.specs.Order.{next_part}
use Rattle.h3_world.specs.Items.{IsSectionItem, body_there, HasCome}
use Rattle.h3_world.specs.Pauses.{section_pause, pause_before, pause_of, paused}
use Rattle.h3_world.specs.Pulling.{settled, PullsNext, Pulls, PausesExactly}
use Rattle.h3_world.specs.Step.{Does, Step, IsExact}
use Rattle.h3_world.specs.Machine.{section_item, item_there, count_waited_for, pull_next, pull_settled, pulled, done, served}
use Rattle.h3_world.specs.Sound.{IsSoundFlow, IsSoundWorld}
use Rattle.h3_world.proofs.ExactPauses.{IsSentNext, sent_next}
use Rattle.h3_world.proofs.ListedPulls.{listed_is_exact}
use Rattle.h3_world.proofs.SoundFlows.{flow_sound}

does_done : (r : Option Refusal) (old : World) (success : Answer) (after : World) → Does r old success after (done r old success after).0 (done r old success after).1
does_done None old success after = (refl, refl)
does_done (Some refused) old success after = (refl, refl)

-- a section whose pause is none has come
own_came : (f : Flow) (came : ℕ) (s : Section) → section_pause f came s ≡ None → s.own_length ≤ f.delivered
own_came f came s e = by_test (nat_lt f.delivered s.own_length) refl e
  where
    at_most : (a b : ℕ) → nat_lt a b ≡ false → b ≤ a
    at_most a b h = grind (arith, common_steps, h)

    by_test : (b : Bool) → nat_lt f.delivered s.own_length ≡ b
        → ◌≡◌ {A = Option Pull} (if b then Some pull.Pending else (if nat_lt came s.count then Some (pull.Waiting s.count) else None)) None → s.own_length ≤ f.delivered
    by_test true t h = cc
    by_test false t h = at_most f.delivered s.own_length t

-- what is handed out of a section is its item
section_is : (kind : Fields → Item) (most : ℕ) (fields : List Field)
    → ((section_size fields ≤ most) → IsSectionItem kind most fields (kind (head_of_fields fields))) → IsSectionItem kind most fields (section_item kind most fields)
section_is kind most fields made = by_test (nat_lt most (section_size fields)) refl
  where
    above : (a b : ℕ) → nat_lt a b ≡ true → a < b
    above a b h = grind (arith, common_steps, h)

    at_most : (a b : ℕ) → nat_lt a b ≡ false → b ≤ a
    at_most a b h = grind (arith, common_steps, h)

    by_test : (b : Bool) → nat_lt most (section_size fields) ≡ b → IsSectionItem kind most fields (if b then item.TooLarge (section_size fields) else kind (head_of_fields fields))
    by_test true t = (refl, above most (section_size fields) t)
    by_test false t = made (at_most most (section_size fields) t)

-- the item that is there is of the next part, which has come
has_come : (most : ℕ) (p : Party) (f : Flow) (came : ℕ) (part : Option Part) → IsSentNext p part → pause_before f came part ≡ None → HasCome most f part (item_there most f part)
has_come most p f came None sent e = cc
has_come most p f came (Some (Interim s)) sent e =
    (own_came f came s e, section_is item.Interim most s.fields (λ h. (refl, h)))
has_come most p f came (Some (Head s)) sent e =
    (own_came f came s e, section_is item.Head most s.fields (λ h. (refl, h)))
has_come most p f came (Some (Trailer s)) sent e =
    (own_came f came s e, section_is item.Trailer most s.fields (λ h. (refl, h)))
has_come most p f came (Some (Body bytes own)) sent e = (body_there f bytes own, some (body_there f bytes own) e, omega arith, refl)
  where
    positive : (n : ℕ) (b : Bool) → (n == 0) ≡ b → ◌≡◌ {A = Option Pull} (if b then Some pull.Pending else None) None → 0 < n
    positive n true t h = cc
    positive n false t h = grind (arith, common_steps, t)

    some : (n : ℕ) → ◌≡◌ {A = Option Pull} (if n == 0 then Some pull.Pending else None) None → 0 < n
    some n h = positive n (n == 0) refl h
has_come most p f came (Some End) sent e = (ended f.ended e, refl)
  where
    ended : (b : Bool) → ◌≡◌ {A = Option Pull} (if b then None else Some pull.Pending) None → b ≡ true
    ended true h = refl
    ended false h = cc

-- A pause is one of the answers that pause.
section_pauses : (f : Flow) (came : ℕ) (s : Section) (p : Pull) → section_pause f came s ≡ Some p → pause_of p ≡ Some p
section_pauses f came s p e = by_tests (nat_lt f.delivered s.own_length) (nat_lt came s.count) e
  where
    same : (q : Pull) → pause_of q ≡ Some q → Some q ≡ Some p → pause_of p ≡ Some p
    same q is h = subst (λ o. MatchOption o (Unit {0}) (λ x. pause_of x ≡ Some x)) h is

    by_tests : (a b : Bool) → ◌≡◌ {A = Option Pull} (if a then Some pull.Pending else (if b then Some (pull.Waiting s.count) else None)) (Some p) → pause_of p ≡ Some p
    by_tests true b h = same pull.Pending refl h
    by_tests false true h = same (pull.Waiting s.count) refl h
    by_tests false false h = cc

pauses : (f : Flow) (came : ℕ) (part : Option Part) (p : Pull) → pause_before f came part ≡ Some p → pause_of p ≡ Some p
pauses f came None p e = subst (λ o. MatchOption o (Unit {0}) (λ x. pause_of x ≡ Some x)) e refl
pauses f came (Some (Interim s)) p e = section_pauses f came s p e
pauses f came (Some (Head s)) p e = section_pauses f came s p e
pauses f came (Some (Trailer s)) p e = section_pauses f came s p e
pauses f came (Some (Body bytes own)) p e = by_test (body_there f bytes own == 0) e
  where
    by_test : (b : Bool) → ◌≡◌ {A = Option Pull} (if b then Some pull.Pending else None) (Some p) → pause_of p ≡ Some p
    by_test true h = subst (λ o. MatchOption o (Unit {0}) (λ x. pause_of x ≡ Some x)) h refl
    by_test false h = cc
pauses f came (Some End) p e = by_test f.ended e
  where
    by_test : (b : Bool) → ◌≡◌ {A = Option Pull} (if b then None else Some pull.Pending) (Some p) → pause_of p ≡ Some p
    by_test true h = cc
    by_test false h = subst (λ o. MatchOption o (Unit {0}) (λ x. pause_of x ≡ Some x)) h refl

-- a pull that is exact
abbrev pub IsExactPull : Setup → World → Side → ℕ → Answer × World → Type 0
IsExactPull setup w side id r = Step setup w (event.Pull side id) r.0 r.1 × IsExact w (event.Pull side id) r.0

-- with the next part in view
pulled_next : (setup : Setup) (w : World) (side : Side) (id : ℕ) → IsSoundFlow (party w (other side)) (flow w (other side) id) → settled w side id ≡ None
    → (o : Option Pull) → pause_before (flow w (other side) id) (insertions_came (party w (other side))) (next_part (flow w (other side) id)) ≡ o
    → IsExactPull setup w side id (pull_next w side id o (item_there (section_of (announced_at setup side)) (flow w (other side) id) (next_part (flow w (other side) id))))
pulled_next setup w side id sound unsettled None e =
    let p = party w (other side) in
    let f = flow w (other side) id in
    let most = section_of (announced_at setup side) in
    let i = item_there most f (next_part f) in
    (none_settled setup w side id (pull.Item i) _ unsettled (has_come most p f (insertions_came p) (next_part f) (sent_next p f sound) e, refl), exact_as w side id (pull.Item i) unsettled (sym e))
  where
    none_settled : (setup : Setup) (w : World) (side : Side) (id : ℕ) (p : Pull) (new : World) → settled w side id ≡ None → PullsNext setup w side id p new → Pulls setup w side id p new
    none_settled setup w side id p new unsettled next = subst (λ s. MatchOption s (PullsNext setup w side id p new) (λ answer. (p ≡ answer) × (new ≡ w))) (sym unsettled) next

    exact_as : (w : World) (side : Side) (id : ℕ) (p : Pull) → settled w side id ≡ None
        → pause_of p ≡ pause_before (flow w (other side) id) (insertions_came (party w (other side))) (next_part (flow w (other side) id)) → PausesExactly w side id p
    exact_as w side id p unsettled e =
        subst (λ s. MatchOption s (pause_of p ≡ pause_before (flow w (other side) id) (insertions_came (party w (other side))) (next_part (flow w (other side) id))) (λ answer. Unit {0})) (sym unsettled) e
pulled_next setup w side id sound unsettled (Some p) e = by_pull p e
  where
    sender : Party
    sender = party w (other side)

    f : Flow
    f = flow w (other side) id

    part : Option Part
    part = next_part f

    none_settled : (p : Pull) (new : World) → PullsNext setup w side id p new → Pulls setup w side id p new
    none_settled p new next = subst (λ s. MatchOption s (PullsNext setup w side id p new) (λ answer. (p ≡ answer) × (new ≡ w))) (sym unsettled) next

    exact_as : (p : Pull) → pause_before f (insertions_came sender) part ≡ Some p → PausesExactly w side id p
    exact_as p e =
        subst (λ s. MatchOption s (pause_of p ≡ pause_before f (insertions_came sender) part) (λ answer. Unit {0})) (sym unsettled) (pauses f (insertions_came sender) part p e ∙ sym e)

    by_pull : (p : Pull) → pause_before f (insertions_came sender) part ≡ Some p
        → IsExactPull setup w side id (answer.Pulled p, paused w side id (count_waited_for p))
    by_pull pull.Pending e = (none_settled pull.Pending _ refl, exact_as pull.Pending e)
    by_pull (pull.Waiting count) e = (none_settled (pull.Waiting count) _ refl, exact_as (pull.Waiting count) e)
    by_pull (pull.Item i) e = absurd (no_pause (pauses f (insertions_came sender) part (pull.Item i) e))
      where
        no_pause : ◌≡◌ {A = Option Pull} None (Some (pull.Item i)) → ⊥
        no_pause h = cc
    by_pull (pull.Fault fault) e = absurd (no_pause (pauses f (insertions_came sender) part (pull.Fault fault) e))
      where
        no_pause : ◌≡◌ {A = Option Pull} None (Some (pull.Fault fault)) → ⊥
        no_pause h = cc
    by_pull pull.NoMessages e = absurd (no_pause (pauses f (insertions_came sender) part pull.NoMessages e))
      where
        no_pause : ◌≡◌ {A = Option Pull} None (Some pull.NoMessages) → ⊥
        no_pause h = cc

pulled_is_exact : (setup : Setup) (w : World) (side : Side) (id : ℕ) → IsSoundFlow (party w (other side)) (flow w (other side) id) → IsExactPull setup w side id (pulled setup w side id)
pulled_is_exact setup w side id sound = by_settled (settled w side id) refl
  where
    next : Answer × World
    next = pull_next w side id (pause_before (flow w (other side) id) (insertions_came (party w (other side))) (next_part (flow w (other side) id)))
        (item_there (section_of (announced_at setup side)) (flow w (other side) id) (next_part (flow w (other side) id)))

    by_settled : (o : Option Pull) → settled w side id ≡ o → IsExactPull setup w side id (pull_settled w o next)
    by_settled None e = pulled_next setup w side id sound e _ refl
    by_settled (Some p) e = (
      subst (λ s. MatchOption s (PullsNext setup w side id p w) (λ answer. (p ≡ answer) × (w ≡ w))) (sym e) (refl, refl),
      subst (λ s. MatchOption s (pause_of p ≡ pause_before (flow w (other side) id) (insertions_came (party w (other side))) (next_part (flow w (other side) id))) (λ answer. Unit {0})) (sym e) tt,
    )

-- each answer of the machine is a step, and exact
pub served_is_step : (setup : Setup) (w : World) (e : Event) → IsSoundWorld setup w → Step setup w e (served setup w e).0 (served setup w e).1 × IsExact w e (served setup w e).0
served_is_step setup w (event.OpenRequest side) sound = (does_done _ w _ _, tt)
served_is_step setup w (event.Head side id head) sound = (does_done _ w _ _, tt)
served_is_step setup w (event.Fields side id fields) sound = (does_done _ w _ _, tt)
served_is_step setup w (event.Body side id bytes) sound = (does_done _ w _ _, tt)
served_is_step setup w (event.Trailer side id trailer) sound = (does_done _ w _ _, tt)
served_is_step setup w (event.TrailerFields side id fields) sound = (does_done _ w _ _, tt)
served_is_step setup w (event.Finish side id) sound = (does_done _ w _ _, tt)
served_is_step setup w (event.Reset side id) sound = (does_done _ w _ _, tt)
served_is_step setup w (event.Cancel side id) sound = (does_done _ w _ _, tt)
served_is_step setup w (event.Goaway side id) sound = (does_done _ w _ _, tt)
served_is_step setup w (event.Deliver side id count) sound = (refl, tt)
served_is_step setup w (event.DeliverEnd side id) sound = (refl, tt)
served_is_step setup w (event.DeliverReset side id) sound = (refl, tt)
served_is_step setup w (event.Pull side id) sound = pulled_is_exact setup w side id (flow_sound w (other side) id sound.exchanges)
served_is_step setup w (event.PullFields side id) sound = listed_is_exact setup w side id (pulled_is_exact setup w side id (flow_sound w (other side) id sound.exchanges))
served_is_step setup w (event.Show side) sound = ((refl, refl), tt)
