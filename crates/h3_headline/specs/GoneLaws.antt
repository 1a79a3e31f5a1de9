-- A stream that was given up stays so, and one that is open. One that is not reset, and a server that has not gone away, stay so but for that.
use Rattle.std.proofs.Common.{◌≡◌, ◌⊎◌, inl, inr, true, false, ℕ, List, [], ◌∷◌, ◌++◌, refl, sym, subst, ap, ◌∙◌, ◌+◌, Bool, if◌then◌else◌, Option, Some, length}
use Rattle.std.specs.Prelude.{◌&&◌, ◌==◌, is_some}
use Rattle.h3_field.specs.Instruction.DecoderInstruction.{CancelStream}
use Rattle.h3_proto.specs.declared.stream.Side.{Side}
use Rattle.h3_proto.specs.declared.stream.Side.TheVariants.{Client, Server}
use Rattle.h3_connection.specs.OwnIds.{other}
use Rattle.h3_connection.specs.declared.event.Item.{Item}
use Rattle.h3_connection.specs.declared.event.Item.TheVariants as item
use Rattle.h3_connection.specs.declared.event.StreamFault.{StreamFault}
use Rattle.h3_world.specs.Flow.{Flow, Part}
use Rattle.h3_world.specs.Flow.Part.{Body}
use Rattle.h3_world.specs.Items.{acknowledgment_of, after_item, after_piece, handed_out}
use Rattle.h3_world.specs.Order.{next_part}
use Rattle.h3_world.specs.Sending.{cut_off, given_up, opened, with_goaway}
use Rattle.h3_world.specs.Step.{Step}
use Rattle.h3_world.specs.Streams.{flow, is_open, with_flow}
use Rattle.h3_world.specs.World.{Party, World, party, with_party}
use Rattle.h3_world.specs.declared.event.Answer.{Answer}
use Rattle.h3_world.specs.declared.event.Answer.TheVariants as answer
use Rattle.h3_world.specs.declared.event.Event.{Event}
use Rattle.h3_world.specs.declared.event.Event.TheVariants as event
use Rattle.h3_world.specs.Setup.{Setup}
use Rattle.h3_headline.specs.ChangeLaws as change
use Rattle.h3_headline.specs.Changes.{Allows, Comes, Ends, FlowChange, HandsOut, IsGivenUp, IsMarked, IsSeen, Sends, StaysAs, StaysBy, Stepwise, Waits, goes_away, resets_on}
use Rattle.h3_headline.specs.Contents.{GoneStays}
use Rattle.h3_headline.specs.FlowLaws.{flow-with_party, is_open-own, is_open-peer, is_open-peer_kept, is_open-with_party, party-with_flow, there-with_party}
use Rattle.h3_headline.specs.KeepsPartsLaws.{flow_at, same_flow, there_with_flow}
use Rattle.h3_headline.specs.Messages.{is_done, is_on}
use Rattle.h3_headline.specs.OpeningLaws.{flow_opened, open_opened, unopened}
use Rattle.h3_headline.specs.Steps.{IsThere}

-- what an item leaves of a flow
piece_stays : (f : Flow) (bytes : List ℕ) (count : ℕ) → ((after_piece f bytes count).fault ≡ f.fault) × ((after_piece f bytes count).is_reset ≡ f.is_reset) × ((after_piece f bytes count).seen ≡ f.seen)
piece_stays f bytes count = by_test (f.body_out + count == length bytes)
  where
    by_test : (b : Bool) → (let g : Flow = if b then record f { parts_out = f.parts_out + 1; body_out = 0; waits_for = 0 } else record f { body_out = f.body_out + count; waits_for = 0 } in
        (g.fault ≡ f.fault) × (g.is_reset ≡ f.is_reset) × (g.seen ≡ f.seen))
    by_test true = (refl, refl, refl)
    by_test false = (refl, refl, refl)

pub item_leaves : (f : Flow) (part : Option Part) (i : Item) → ((after_item f part i).fault ≡ f.fault) × ((after_item f part i).is_reset ≡ f.is_reset) × ((after_item f part i).seen ≡ f.seen)
item_leaves f (Some (Body bytes own)) (item.Body piece) = piece_stays f bytes (length piece)
item_leaves f part i = (refl, refl, refl)

-- What holds of a flow behind each change of it.
module _ (Q : Flow → Type 0) (closed : (f g : Flow) → FlowChange f g → Q f → Q g) where
  flow_same : (w new : World) (writer : Side) (id : ℕ) → flow new writer id ≡ flow w writer id → Q (flow w writer id) → Q (flow new writer id)
  flow_same w new writer id same h = subst Q (sym same) h

  flow_changed : (w : World) (s : Side) (i : ℕ) (g : Flow) → IsThere w i → FlowChange (flow w s i) g → (writer : Side) (id : ℕ) → Q (flow w writer id) → Q (flow (with_flow w s i g) writer id)
  flow_changed w s i g there changed writer id h = subst Q (sym (flow_at w s writer i id g there)) (by_on (is_on writer id s i) refl)
    where
      by_on : (b : Bool) → is_on writer id s i ≡ b → Q (if b then g else flow w writer id)
      by_on true e = closed (flow w s i) g changed (subst Q (same_flow w s writer i id e) h)
      by_on false e = h

-- **A stream that was given up.**
gone_changed : (f g : Flow) → FlowChange f g → is_some f.fault ≡ true → is_some g.fault ≡ true
gone_changed f _ (Sends part) h = h
gone_changed f _ (Comes count) h = h
gone_changed f _ Ends h = h
gone_changed f _ IsMarked h = h
gone_changed f _ IsSeen h = h
gone_changed f _ (IsGivenUp fault) h = refl
gone_changed f _ (Waits count) h = h
gone_changed f _ (HandsOut part i) h = ap is_some (item_leaves f part i).0 ∙ h

pub gone_steps : Stepwise GoneStays
gone_steps =
    record {
      same = λ w writer id h. h;
      joined = λ w mid new first later writer id h. later writer id (first writer id h);
      opens = λ w writer id. flow_same (λ f. is_some f.fault ≡ true) gone_changed w (opened w) writer id (flow_opened w writer id);
      writes = λ w side p says writer id. flow_same (λ f. is_some f.fault ≡ true) gone_changed w (with_party w side p) writer id (flow-with_party w side writer p id);
      changes = λ w side i g there changed writer id. flow_changed (λ f. is_some f.fault ≡ true) gone_changed w side i g there changed writer id;
    }

-- also where a reset cuts it off
cut_stays : (w : World) (side : Side) (i : ℕ) → IsThere w i → GoneStays w (cut_off w side i)
cut_stays w side i there writer id h = ap (λ (f : Flow). is_some f.fault) (flow_at w side writer i id (record (flow w side i) { is_reset = true }) there) ∙ by_on (is_on writer id side i) refl
  where
    by_on : (b : Bool) → is_on writer id side i ≡ b → is_some (if b then record (flow w side i) { is_reset = true } else flow w writer id).fault ≡ true
    by_on true e = sym (ap (λ (f : Flow). is_some f.fault) (same_flow w side writer i id e)) ∙ h
    by_on false e = h

pub gone_allowed : (w : World) (e : Event) (a : Answer) → Allows GoneStays w e a
gone_allowed w (event.Reset side i) a = λ there done. cut_stays w side i there
gone_allowed w (event.Goaway side i) a =
    λ done writer id. flow_same (λ f. is_some f.fault ≡ true) gone_changed w (with_goaway w side i) writer id (flow-with_party w side writer (record (party w side) { own = record (party w side).own { goaways = (party w side).own.goaways ++ i ∷ [] } }) id)
gone_allowed w e a = tt

pub stays_same : (w : World) → GoneStays w w
stays_same w = gone_steps.same w

pub stays_then : (w mid new : World) → GoneStays w mid → GoneStays mid new → GoneStays w new
stays_then w mid new first later = gone_steps.joined w mid new first later

pub stays_given_up : (w : World) (receiver : Side) (i : ℕ) (fault : StreamFault) → IsThere w i → GoneStays w (given_up w receiver i fault)
stays_given_up = change.stays_given_up GoneStays gone_steps

pub gone_stays : (setup : Setup) (w new : World) (e : Event) (a : Answer) → Step setup w e a new → GoneStays w new
gone_stays setup w new e a step = change.event_stays GoneStays gone_steps setup w new e a (gone_allowed w e a) step

-- and it is given up then
pub gone_given_up : (w : World) (receiver : Side) (i : ℕ) (fault : StreamFault) (writer : Side) (id : ℕ) → IsThere w i → is_on writer id (other receiver) i ≡ true → is_some (flow (given_up w receiver i fault) writer id).fault ≡ true
gone_given_up w receiver i fault writer id there on =
    let q : Party = record (party w receiver) { own = record (party w receiver).own { replies = (party w receiver).own.replies ++ CancelStream i ∷ [] } } in
    let v : World = with_party w receiver q in
    let g : Flow = record (flow w (other receiver) i) { fault = Some fault; waits_for = 0 } in
    ap (λ (f : Flow). is_some f.fault) (flow_at v (other receiver) writer i id g (there-with_party w receiver q i there)) ∙ ap (λ (b : Bool). is_some (if b then g else flow v writer id).fault) on

-- the stream is there behind an item
pub there_handed : (w : World) (side : Side) (i : ℕ) (it : Item) → IsThere w i → IsThere (handed_out w side i it) i
there_handed w side i it there =
    let f = flow w (other side) i in
    let q : Party = record (party w side) { own = record (party w side).own { replies = (party w side).own.replies ++ acknowledgment_of i (next_part f) } } in
    there_with_flow (with_party w side q) (other side) i (after_item f (next_part f) it) (there-with_party w side q i there)

-- **One that is not reset.**
unreset_changed : (f g : Flow) → FlowChange f g → f.is_reset ≡ false → g.is_reset ≡ false
unreset_changed f _ (Sends part) h = h
unreset_changed f _ (Comes count) h = h
unreset_changed f _ Ends h = h
unreset_changed f _ IsMarked h = h
unreset_changed f _ IsSeen h = h
unreset_changed f _ (IsGivenUp fault) h = h
unreset_changed f _ (Waits count) h = h
unreset_changed f _ (HandsOut part i) h = (item_leaves f part i).1 ∙ h

-- **One that is open.**
seen_changed : (f g : Flow) → FlowChange f g → (g.seen ≡ f.seen) ⊎ (g.seen ≡ true)
seen_changed f _ (Sends part) = inl refl
seen_changed f _ (Comes count) = inr refl
seen_changed f _ Ends = inr refl
seen_changed f _ IsMarked = inr refl
seen_changed f _ IsSeen = inr refl
seen_changed f _ (IsGivenUp fault) = inl refl
seen_changed f _ (Waits count) = inl refl
seen_changed f _ (HandsOut part i) = inl (item_leaves f part i).2

if_open : (b is : Bool) → is ≡ true → (if b then true else is) ≡ true
if_open true is h = refl
if_open false is h = h

open_changed : (w : World) (s : Side) (i : ℕ) (g : Flow) → IsThere w i → FlowChange (flow w s i) g → (writer : Side) (id : ℕ) → is_open w writer id ≡ true → is_open (with_flow w s i g) writer id ≡ true
open_changed w Client i g there changed Client id h = is_open-own w Client i id g there ∙ h
open_changed w Server i g there changed Server id h = is_open-own w Server i id g there ∙ h
open_changed w Server i g there changed Client id h = by_seen (seen_changed (flow w Server i) g changed)
  where
    by_seen : (g.seen ≡ (flow w Server i).seen) ⊎ (g.seen ≡ true) → is_open (with_flow w Server i g) Client id ≡ true
    by_seen (inl same) = is_open-peer_kept w Client i id g there same ∙ h
    by_seen (inr seen) = is_open-peer w Client i id g there seen ∙ if_open (i == id) (is_open w Client id) h
open_changed w Client i g there changed Server id h = by_seen (seen_changed (flow w Client i) g changed)
  where
    by_seen : (g.seen ≡ (flow w Client i).seen) ⊎ (g.seen ≡ true) → is_open (with_flow w Client i g) Server id ≡ true
    by_seen (inl same) = is_open-peer_kept w Server i id g there same ∙ h
    by_seen (inr seen) = is_open-peer w Server i id g there seen ∙ if_open (i == id) (is_open w Server id) h

still_open : (w : World) (side : Side) (id : ℕ) → is_open w side id ≡ true → is_open (opened w) side id ≡ true
still_open w Client id h = open_opened w id ∙ if_open _ (is_open w Client id) h
still_open w Server id h = unopened w id ∙ h

-- **A server that has not gone away.**
unsaid_party : (w : World) (side : Side) (p : Party) → p.own.goaways ≡ (party w side).own.goaways → (with_party w side p).server.own.goaways ≡ w.server.own.goaways
unsaid_party w Client p same = refl
unsaid_party w Server p same = same

module _ (writer : Side) (id : ℕ) (resets goes : Bool) where
  pub as_steps : Stepwise (StaysAs writer id resets goes)
  as_steps =
      record {
        same = λ w. record { opened = λ h. h; unreset = λ e h. h; unsaid = λ e h. h };
        joined = λ w mid new first later.
            record { opened = λ h. later.opened (first.opened h); unreset = λ e h. later.unreset e (first.unreset e h); unsaid = λ e h. later.unsaid e (first.unsaid e h) };
        opens = λ w.
            record { opened = still_open w writer id; unreset = λ e. flow_same (λ f. f.is_reset ≡ false) unreset_changed w (opened w) writer id (flow_opened w writer id); unsaid = λ e h. h };
        writes = λ w side p says.
            record {
              opened = λ h. is_open-with_party w side writer p id ∙ h;
              unreset = λ e. flow_same (λ f. f.is_reset ≡ false) unreset_changed w (with_party w side p) writer id (flow-with_party w side writer p id);
              unsaid = λ e h. unsaid_party w side p says ∙ h;
            };
        changes = λ w side i g there changed.
            record {
              opened = open_changed w side i g there changed writer id;
              unreset = λ e. flow_changed (λ f. f.is_reset ≡ false) unreset_changed w side i g there changed writer id;
              unsaid = λ e h. ap (λ (p : Party). p.own.goaways) (party-with_flow w side Server i g) ∙ h;
            };
      }

-- a reset and a GOAWAY change just that
cut_open : (w : World) (side : Side) (i : ℕ) → IsThere w i → (writer : Side) (id : ℕ) → is_open w writer id ≡ true → is_open (cut_off w side i) writer id ≡ true
cut_open w Client i there Client id h = is_open-own w Client i id (record (flow w Client i) { is_reset = true }) there ∙ h
cut_open w Server i there Server id h = is_open-own w Server i id (record (flow w Server i) { is_reset = true }) there ∙ h
cut_open w Server i there Client id h = is_open-peer_kept w Client i id (record (flow w Server i) { is_reset = true }) there refl ∙ h
cut_open w Client i there Server id h = is_open-peer_kept w Server i id (record (flow w Client i) { is_reset = true }) there refl ∙ h

cut_elsewhere : (w : World) (side : Side) (i : ℕ) (a : Answer) → IsThere w i → a ≡ answer.Done → (writer : Side) (id : ℕ) → resets_on writer id (event.Reset side i) a ≡ false → (flow w writer id).is_reset ≡ false
    → (flow (cut_off w side i) writer id).is_reset ≡ false
cut_elsewhere w side i a there done writer id e h =
    ap (λ (f : Flow). f.is_reset) (flow_at w side writer i id (record (flow w side i) { is_reset = true }) there)
    ∙ by_on (is_on writer id side i) (ap (λ x. is_on writer id side i && is_done x) (sym done) ∙ e)
  where
    by_on : (b : Bool) → (b && true) ≡ false → (if b then record (flow w side i) { is_reset = true } else flow w writer id).is_reset ≡ false
    by_on true k = absurd (cc)
    by_on false k = h

pub as_allowed : (w : World) (e : Event) (a : Answer) (writer : Side) (id : ℕ) → Allows (StaysAs writer id (resets_on writer id e a) (goes_away e a)) w e a
as_allowed w (event.Reset side i) a writer id =
    λ there done. record {
      opened = cut_open w side i there writer id;
      unreset = cut_elsewhere w side i a there done writer id;
      unsaid = λ e h. ap (λ (p : Party). p.own.goaways) (party-with_flow w side Server i (record (flow w side i) { is_reset = true })) ∙ h;
    }
as_allowed w (event.Goaway Client i) a writer id =
    λ done.
    let p : Party = record w.client { own = record w.client.own { goaways = w.client.own.goaways ++ i ∷ [] } } in
    record {
      opened = λ h. is_open-with_party w Client writer p id ∙ h;
      unreset = λ e. flow_same (λ f. f.is_reset ≡ false) unreset_changed w (with_goaway w Client i) writer id (flow-with_party w Client writer p id);
      unsaid = λ e h. h;
    }
as_allowed w (event.Goaway Server i) a writer id =
    λ done.
    let p : Party = record w.server { own = record w.server.own { goaways = w.server.own.goaways ++ i ∷ [] } } in
    record {
      opened = λ h. is_open-with_party w Server writer p id ∙ h;
      unreset = λ e. flow_same (λ f. f.is_reset ≡ false) unreset_changed w (with_goaway w Server i) writer id (flow-with_party w Server writer p id);
      unsaid = λ e h. absurd (let never : true ≡ false = ap is_done (sym done) ∙ e in cc);
    }
as_allowed w e a writer id = tt
