-- A party or a flow of a world changes: what each side keeps of the other stays readable.
use Rattle.std.proofs.Common.{◌≡◌, ◌⊎◌, inl, inr, ℕ, Bool, true, false, refl, sym, ap, ◌∙◌, subst, if◌then◌else◌}
use Rattle.std.specs.Prelude.{◌==◌}
use Rattle.h3_proto.specs.declared.stream.Side.{Side}
use Rattle.h3_connection.specs.OwnIds.{other}
use Rattle.h3_world.specs.Setup.{Setup}
use Rattle.h3_world.specs.Flow.{Flow}
use Rattle.h3_world.specs.Streams.{flow, with_flow, is_open}
use Rattle.h3_world.specs.World.{World, Party, party, with_party}
use Rattle.h3_headline.specs.FlowLaws.{same_number, flow-with_flow, flow-with_other, flow-with_party, party-with_flow, party-with_party, party-with_other, is_open-own, is_open-peer, is_open-peer_kept, is_open-with_party, other-other}
use Rattle.h3_headline.specs.Steps.{IsThere}
use Rattle.h3_memory.specs.Writing.{WritesOn, LeavesKept}
use Rattle.h3_memory.proofs.Written.{OwnGrows, SameTaken, FlowGrows, SameMarks, nothing_written, same_taken, nothing_sent, same_marks, grown_on, leaves_both}

-- A party wrote more.
pub party_leaves : (setup : Setup) (w : World) (side : Side) (p : Party) → OwnGrows (party w side).own p.own → SameTaken (party w side).own p.own → LeavesKept setup w (with_party w side p)
party_leaves setup w side p own taken =
    leaves_both setup w v side
    (grown_on setup w v side (record { own = subst (λ q. OwnGrows (party w side).own q.own) (sym here) own; flows = flows side; opened = opens side })
    (record { taken = subst (λ q. SameTaken (party w side).own q.own) (sym here) taken; marks = marks side }))
    (grown_on setup w v (other side)
    (record { own = subst (λ q. OwnGrows (party w (other side)).own q.own) (sym there) (nothing_written (party w (other side)).own); flows = flows (other side); opened = opens (other side) })
    (record { taken = subst (λ q. SameTaken (party w (other side)).own q.own) (sym there) (same_taken (party w (other side)).own); marks = marks (other side) }))
  where
    v : World
    v = with_party w side p

    here : party v side ≡ p
    here = party-with_party w side p

    there : party v (other side) ≡ party w (other side)
    there = party-with_other w side p

    flows : (s : Side) (i : ℕ) → FlowGrows (flow w s i) (flow v s i)
    flows s i = subst (FlowGrows (flow w s i)) (sym (flow-with_party w side s p i)) (nothing_sent (flow w s i))

    marks : (s : Side) (i : ℕ) → SameMarks (flow w s i) (flow v s i)
    marks s i = subst (SameMarks (flow w s i)) (sym (flow-with_party w side s p i)) (same_marks (flow w s i))

    opens : (s : Side) (i : ℕ) → is_open w s i ≡ true → is_open v s i ≡ true
    opens s i e = is_open-with_party w side s p i ∙ e

-- What holds of a flow that changes, and of one that does not, holds of each.
pub each_flow : (P : Flow → Flow → Type 0) → ((f : Flow) → P f f) → (w : World) (side : Side) (id : ℕ) (g : Flow) → IsThere w id → P (flow w side id) g → (i : ℕ) → P (flow w side i) (flow (with_flow w side id g) side i)
each_flow P same w side id g there h i = subst (P (flow w side i)) (sym (flow-with_flow w side id i g there)) (by_test (id == i) refl)
  where
    by_test : (b : Bool) → (id == i) ≡ b → P (flow w side i) (if b then g else flow w side i)
    by_test true e = subst (λ n. P (flow w side n) g) (same_number id i e) h
    by_test false e = same (flow w side i)

pub other_flow : (P : Flow → Flow → Type 0) → ((f : Flow) → P f f) → (w : World) (side : Side) (id : ℕ) (g : Flow) → IsThere w id → (i : ℕ) → P (flow w (other side) i) (flow (with_flow w side id g) (other side) i)
other_flow P same w side id g there i = subst (P (flow w (other side) i)) (sym (flow-with_other w side id i g there)) (same (flow w (other side) i))

-- the other side has seen something of it, or as much as before
abbrev pub SeenSo : Flow → Flow → Type 0
SeenSo f g = (g.seen ≡ true) ⊎ (g.seen ≡ f.seen)

-- the streams that are open to the other side still are
pub still_open : (w : World) (side : Side) (id : ℕ) (g : Flow) → IsThere w id → SeenSo (flow w side id) g → (i : ℕ) → is_open w (other side) i ≡ true → is_open (with_flow w side id g) (other side) i ≡ true
still_open w side id g there seen i e = subst (λ s. is_open (with_flow w s id g) (other side) i ≡ true) (other-other side) (by_seen seen)
  where
    by_id : (b : Bool) → (if b then true else is_open w (other side) i) ≡ true
    by_id true = refl
    by_id false = e

    by_seen : SeenSo (flow w side id) g → is_open (with_flow w (other (other side)) id g) (other side) i ≡ true
    by_seen (inl seen) = is_open-peer w (other side) id i g there seen ∙ by_id (id == i)
    by_seen (inr same) = is_open-peer_kept w (other side) id i g there (same ∙ ap (λ s. (flow w s id).seen) (sym (other-other side))) ∙ e

-- The other side's writer, where a flow changes.
pub other_on : (setup : Setup) (w : World) (side : Side) (id : ℕ) (g : Flow) → IsThere w id → SeenSo (flow w side id) g → WritesOn setup w (with_flow w side id g) (other side)
other_on setup w side id g there seen =
    grown_on setup w v (other side)
    (record { own = subst (λ q. OwnGrows (party w (other side)).own q.own) (sym same) (nothing_written (party w (other side)).own); flows = other_flow FlowGrows nothing_sent w side id g there; opened = still_open w side id g there seen })
    (record { taken = subst (λ q. SameTaken (party w (other side)).own q.own) (sym same) (same_taken (party w (other side)).own); marks = other_flow SameMarks same_marks w side id g there })
  where
    v : World
    v = with_flow w side id g

    same : party v (other side) ≡ party w (other side)
    same = party-with_flow w side (other side) id g

-- **More was sent on a stream, or its receiver gave it up.**
pub flow_leaves : (setup : Setup) (w : World) (side : Side) (id : ℕ) (g : Flow) → IsThere w id → FlowGrows (flow w side id) g → SameMarks (flow w side id) g → SeenSo (flow w side id) g → LeavesKept setup w (with_flow w side id g)
flow_leaves setup w side id g there grows marks seen =
    leaves_both setup w v side
    (grown_on setup w v side
    (record { own = subst (λ q. OwnGrows (party w side).own q.own) (sym same) (nothing_written (party w side).own); flows = each_flow FlowGrows nothing_sent w side id g there grows; opened = λ i e. is_open-own w side id i g there ∙ e })
    (record { taken = subst (λ q. SameTaken (party w side).own q.own) (sym same) (same_taken (party w side).own); marks = each_flow SameMarks same_marks w side id g there marks }))
    (other_on setup w side id g there seen)
  where
    v : World
    v = with_flow w side id g

    same : party v side ≡ party w side
    same = party-with_flow w side side id g
