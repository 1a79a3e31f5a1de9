-- A side that has read all that it keeps gives a message up: the world is sound, and what the other side keeps is readable.
use Rattle.std.proofs.Common.{◌≡◌, arith, ℕ, true, false, if◌then◌else◌, [], refl, sym, ap, ◌∙◌, subst, Option, Some, None}
use Rattle.std.specs.Prelude.{MatchOption, ◌++◌, ◌==◌, is_some}
use Rattle.std.proofs.lemmas.Grind.{common_steps}
use Rattle.h3_proto.specs.declared.stream.Side.{Side}
use Rattle.h3_connection.specs.Announcing.{section_of}
use Rattle.h3_connection.specs.OwnIds.{other}
use Rattle.h3_connection.specs.declared.event.Item.{Item}
use Rattle.h3_connection.specs.declared.event.Pull.TheVariants as pull
use Rattle.h3_connection.specs.declared.event.StreamFault.{StreamFault}
use Rattle.h3_world.specs.Flow.{Flow}
use Rattle.h3_world.specs.Items.{HasCome, acknowledgment_of, after_item, handed_out}
use Rattle.h3_world.specs.Order.{next_part}
use Rattle.h3_world.specs.Pulling.{PausesExactly, PullsNext, settled}
use Rattle.h3_world.specs.Sending.{given_up}
use Rattle.h3_world.specs.Setup.{Setup, announced_at}
use Rattle.h3_world.specs.Sound.{IsSoundWorld}
use Rattle.h3_world.specs.Step.{Step}
use Rattle.h3_world.specs.Streams.{flow, is_open}
use Rattle.h3_world.specs.World.{Party, World, party, with_party}
use Rattle.h3_world.specs.declared.event.Answer.TheVariants as answer
use Rattle.h3_world.specs.declared.event.Event.TheVariants as event
use Rattle.h3_headline.specs.FlowLaws.{flow-with_flow, open_there, there-with_party}
use Rattle.h3_headline.specs.GoneLaws.{item_leaves}
use Rattle.h3_headline.specs.SettledLaws.{settled_alive, settled_none}
use Rattle.h3_headline.specs.Steps.{IsThere}
use Rattle.h3_memory.specs.Kept.{KeepingWorld, caught_up, with_kept}
use Rattle.h3_memory.specs.SoundKeeping.{IsSoundKeeping}
use Rattle.h3_memory.specs.Writing.{WritesOn}
use Rattle.h3_memory.proofs.EventsKept.{catches_up, caught_on, with_kept_sound}
use Rattle.h3_memory.proofs.KeptLaws.{KeptLaws}
use Rattle.h3_memory.proofs.PullsLeave.{pull_leaves}
use Rattle.h3_memory.proofs.SendsLeave.{given_leaves}
use Rattle.h3_memory.proofs.Written.{leaves_at, on_then, unchanged_on}

-- `a_side_gives_a_stream_up` of `h3_world`
abbrev pub GivingSound : Type 0
GivingSound = (setup : Setup) (w : World) (receiver : Side) (id : ℕ) (fault : StreamFault) → IsSoundWorld setup w → is_open w receiver id ≡ true → (flow w (other receiver) id).fault ≡ None → IsSoundWorld setup (given_up w receiver id fault)

none_of : {X : Type 0} (o : Option X) → is_some o ≡ false → o ≡ None
none_of None e = refl
none_of (Some x) e = absurd (cc)

same_id : (n : ℕ) → (n == n) ≡ true
same_id n = grind (arith, common_steps)

-- what an item leaves of the stream's fault
alive_handed : (w : World) (side : Side) (id : ℕ) (i : Item) → IsThere w id → (flow (handed_out w side id i) (other side) id).fault ≡ (flow w (other side) id).fault
alive_handed w side id i there =
    let f = flow w (other side) id in
    let p : Party = record (party w side) { own = record (party w side).own { replies = (party w side).own.replies ++ acknowledgment_of id (next_part f) } } in
    let g : Flow = after_item f (next_part f) i in
    ap (λ (x : Flow). x.fault) (flow-with_flow (with_party w side p) (other side) id id g (there-with_party w side p id there) ∙ ap (λ b. if b then g else flow (with_party w side p) (other side) id) (same_id id))
    ∙ (item_leaves f (next_part f) i).0

module _ (q : KeptLaws) (giving : GivingSound) (setup : Setup) (k : KeepingWorld) (side : Side) (id : ℕ) (fault : StreamFault) (h : IsSoundKeeping setup k) (unsettled : settled (caught_up setup k side) side id ≡ None) where
  abbrev u : World
  u = caught_up setup k side

  here : is_open u side id ≡ true
  here = (settled_none u side id unsettled).is_there

  alive : (flow u (other side) id).fault ≡ None
  alive = none_of (flow u (other side) id).fault (settled_alive u side id unsettled)

  gives_from : (v : World) → IsSoundWorld setup v → WritesOn setup u v side → (flow v (other side) id).fault ≡ None → IsSoundKeeping setup (with_kept k side (given_up v side id fault) [])
  gives_from v sound on none =
      let open_ = on.writes.opened id here in
      let w = given_up v side id fault in
      with_kept_sound setup k side w [] h (giving setup v side id fault sound open_ none) tt
      (on_then setup k.world u w side (caught_on q setup k side h) (on_then setup u v w side on (leaves_at setup v w side (given_leaves setup v side id fault (open_there v side id open_)))))

  -- **At once.**
  pub gives_at_once : IsSoundKeeping setup (with_kept k side (given_up u side id fault) [])
  gives_at_once = gives_from u (catches_up q setup k side h).sound (unchanged_on setup u side) alive

  -- **And behind its next part.**
  pub gives_behind : (i : Item) → HasCome (section_of (announced_at setup side)) (flow u (other side) id) (next_part (flow u (other side) id)) i → PausesExactly u side id (pull.Item i)
      → IsSoundKeeping setup (with_kept k side (given_up (handed_out u side id i) side id fault) [])
  gives_behind i come exact =
      let v : World = handed_out u side id i in
      let step : Step setup u (event.Pull side id) (answer.Pulled (pull.Item i)) v =
      subst (λ o. MatchOption o (PullsNext setup u side id (pull.Item i) v) (λ p. (pull.Item i ≡ p) × (v ≡ u))) (sym unsettled) (come, refl) in
      gives_from v (q.worlds.both setup u v (event.Pull side id) (answer.Pulled (pull.Item i)) tt step exact (catches_up q setup k side h).sound).1
      (leaves_at setup u v side (pull_leaves setup u v side id (answer.Pulled (pull.Item i)) step)) (alive_handed u side id i (open_there u side id here) ∙ alive)
