-- What a pull may answer.
use Rattle.std.specs.Prelude.{◌≡◌, ℕ, ◌%◌, not, ◌==◌, if◌then◌else◌, List, Option, Some, None, MatchOption, IfSome, option_map}
use Rattle.h3_field.specs.Field.{Field}
use Rattle.h3_proto.specs.StreamIds.{is_request_stream}
use Rattle.h3_proto.specs.declared.stream.Side.{Side}
use Rattle.h3_connection.specs.Announcing.{section_of}
use Rattle.h3_connection.specs.OwnIds.{other, control_id, encoder_id, decoder_id}
use Rattle.h3_connection.specs.Pulling.{is_client}
use Rattle.h3_connection.specs.declared.event.Item.TheVariants as item
use Rattle.h3_connection.specs.declared.event.Pull.{Pull}
use Rattle.h3_connection.specs.declared.event.Pull.TheVariants as pull
use Rattle.h3_connection.specs.declared.event.Fault.TheVariants.{Stream}
use Rattle.h3_connection.specs.declared.event.StreamFault.{StreamFault}
use Rattle.h3_connection.specs.declared.lists.ListPull.{ListPull}
use Rattle.h3_connection.specs.Lists.{list_of, pull_of}
use Rattle.h3_world.specs.Lists.{as_flagged}
use Rattle.h3_world.specs.Setup.{Setup, announced_at, flags_secrets}
use Rattle.h3_world.specs.World.{World, party}
use Rattle.h3_world.specs.Came.{insertions_came}
use Rattle.h3_world.specs.Streams.{flow, is_open}
use Rattle.h3_world.specs.Order.{next_part, section_of_part, is_over}
use Rattle.h3_world.specs.Items.{HasCome, handed_out}
use Rattle.h3_world.specs.Pauses.{pause_before, pause_of, paused}

-- how much of a unidirectional stream of the side was delivered
abbrev pub own_delivered : World → Side → ℕ → ℕ
own_delivered w side id =
    let own = (party w side).own in
    if id == control_id side then own.control_taken else (
    if id == encoder_id side then own.encoder_taken else (
    if id == decoder_id side then own.decoder_taken else 0))

-- The answer on a unidirectional stream of the other side, which carries no messages. Before its type came that isn't known.
abbrev pub pull_unidirectional : World → Side → ℕ → Pull
pull_unidirectional w writer id = if own_delivered w writer id == 0 then pull.Pending else pull.NoMessages

-- a client pulls only what it has opened
abbrev pub pull_unopened : Side → Pull
pull_unopened side = if is_client side then pull.NoMessages else pull.Pending

-- the fault for which the stream was given up, else the other answer
abbrev pub fault_or : Option StreamFault → Option Pull → Option Pull
fault_or None answer = answer
fault_or (Some fault) answer = Some (pull.Fault (Stream fault))

-- the answer where there is no next part, whatever was sent
abbrev pub settled : World → Side → ℕ → Option Pull
settled w side id =
    let f = flow w (other side) id in
    if id % 4 == control_id (other side) then Some (pull_unidirectional w (other side) id) else (
    if not (is_request_stream id) then Some pull.NoMessages else (
    if not (is_open w side id) then Some (pull_unopened side) else (
    fault_or f.fault (if is_over f then Some (pull.Item item.End) else None))))

-- The answer of a pull, with the next part in view, and what a pause leaves: where there is one says `PausesExactly`.
abbrev pub PullsNext : Setup → World → Side → ℕ → Pull → World → Type 0
PullsNext setup w side id (pull.Item i) new =
    HasCome (section_of (announced_at setup side)) (flow w (other side) id) (next_part (flow w (other side) id)) i
    × (new ≡ handed_out w side id i)
PullsNext setup w side id pull.Pending new = new ≡ paused w side id 0
PullsNext setup w side id (pull.Waiting count) new = new ≡ paused w side id count
PullsNext setup w side id (pull.Fault fault) new = ⊥
PullsNext setup w side id pull.NoMessages new = ⊥

abbrev pub Pulls : Setup → World → Side → ℕ → Pull → World → Type 0
Pulls setup w side id p new =
    MatchOption (settled w side id) (PullsNext setup w side id p new) (λ answer. (p ≡ answer) × (new ≡ w))

-- the list that is next, as its encoder flags it
abbrev pub list_next : Setup → World → Side → ℕ → Option (List Field)
list_next setup w side id =
    option_map (λ s. as_flagged (flags_secrets (announced_at setup (other side))) s.fields) (section_of_part (next_part (flow w (other side) id)))

-- The answer of a pull with lists is that of a pull, with the list that is next in the place of a header.
abbrev pub PullsListed : Setup → World → Side → ℕ → ListPull → World → Type 0
PullsListed setup w side id l new = Pulls setup w side id (pull_of l) new × IfSome (list_of l) (λ fields. list_next setup w side id ≡ Some fields)

-- A reader pauses exactly where its next part is not there: for own bytes, or for a required insert count.
abbrev pub PausesExactly : World → Side → ℕ → Pull → Type 0
PausesExactly w side id p =
    let f = flow w (other side) id in
    MatchOption (settled w side id)
    (pause_of p ≡ pause_before f (insertions_came (party w (other side))) (next_part f))
    (λ answer. Unit {0})
