-- What a pull of a strict end leaves: both ends count alike, and a server that was handed a request's head knows what it asks.
use Rattle.std.proofs.Common.{◌≡◌, ℕ, zero, suc, ◌+◌, Bool, true, false, List, [], ◌∷◌, length, refl, sym, ap, ◌∙◌, subst, Option, Some, None, if◌then◌else◌}
use Rattle.std.specs.Prelude.{◌==◌, unwrap_or, slice_get}
use Rattle.h3_messages.specs.Content.{awaited_by}
use Rattle.h3_messages.specs.declared.content.Content.{Content}
use Rattle.h3_proto.specs.declared.stream.Side.{Side}
use Rattle.h3_connection.specs.Delivering.{incoming_at, with_incoming}
use Rattle.h3_connection.specs.Endpoint.{EndpointHistory, replied}
use Rattle.h3_connection.specs.Incoming.{Incoming}
use Rattle.h3_connection.specs.Outgoing.{Outgoing, nothing_sent}
use Rattle.h3_connection.specs.Pulling.{Pulled}
use Rattle.h3_connection.specs.Sending.{after_answer, outgoing_at, pulled}
use Rattle.h3_connection.specs.StreamSets.{Streams, stream_at}
use Rattle.h3_connection.specs.declared.event.Fault.TheVariants as fault
use Rattle.h3_connection.specs.declared.event.Item.{Item}
use Rattle.h3_connection.specs.declared.event.Item.TheVariants as item
use Rattle.h3_connection.specs.declared.event.Pull.{Pull}
use Rattle.h3_connection.specs.declared.event.Pull.TheVariants as pull
use Rattle.h3_world.specs.Flow.{Flow, Part, Section}
use Rattle.h3_world.specs.Flow.Part.{Body, End, Head as HeadPart, Interim, Trailer}
use Rattle.h3_world.specs.Items.{HasCome, after_item}
use Rattle.h3_world.specs.Sound.{AreSent, is_before_head as is_before}
use Rattle.h3_world.specs.World.{Party}
use Rattle.h3_strict.proofs.KeepsCounts.{KeepsBut, SameCounts, SendsSame, no_stream, same_counts, sends_same, set_in}
use Rattle.h3_strict.specs.ServerKnows.{hands_head}
use Rattle.h3_strict.specs.StrictPull.{response_after}
use Rattle.h3_strict.specs.Tallies.{asked_in, has_head}

-- what a pull answers leaves the streams
pub answer_streams : (a : Pull) (e : EndpointHistory) → ((after_answer a e).1.incoming ≡ e.incoming) × ((after_answer a e).1.outgoing ≡ e.outgoing) × ((after_answer a e).1.announced ≡ e.announced)
answer_streams (pull.Fault (fault.Connection code)) e = (refl, refl, refl)
answer_streams (pull.Fault (fault.Stream f)) e = (refl, refl, refl)
answer_streams (pull.Fault fault.Memory) e = (refl, refl, refl)
answer_streams pull.Pending e = (refl, refl, refl)
answer_streams (pull.Waiting count) e = (refl, refl, refl)
answer_streams (pull.Item i) e = (refl, refl, refl)
answer_streams pull.NoMessages e = (refl, refl, refl)

pub answer_is : (a : Pull) (e : EndpointHistory) → (after_answer a e).0 ≡ a
answer_is (pull.Fault (fault.Connection code)) e = refl
answer_is (pull.Fault (fault.Stream f)) e = refl
answer_is (pull.Fault fault.Memory) e = refl
answer_is pull.Pending e = refl
answer_is (pull.Waiting count) e = refl
answer_is (pull.Item i) e = refl
answer_is pull.NoMessages e = refl

-- one receiver is what the pull left
pub pulled_in : (e : EndpointHistory) (id : ℕ) (p : Pulled) (j : ℕ) (P : ℕ → Incoming → Type 0) → P id p.incoming → ((id == j) ≡ false → P j (incoming_at e j)) → P j (incoming_at (pulled e id p).1 j)
pulled_in e id p j P here there = set_in e (pulled e id p).1 id p.incoming (answer_streams p.answer (replied (with_incoming e id p.incoming) p.replies)).0 j P here there

pub pulled_out : (e : EndpointHistory) (id : ℕ) (p : Pulled) → (pulled e id p).1.outgoing ≡ e.outgoing
pulled_out e id p = (answer_streams p.answer (replied (with_incoming e id p.incoming) p.replies)).1

-- a pull that leaves its receiver as it was, but for what it waits for
pub pulled_keeps : (e : EndpointHistory) (id : ℕ) (p : Pulled) → SameCounts (incoming_at e id) p.incoming → KeepsBut no_stream e (pulled e id p).1
pulled_keeps e id p same = record {
  out = λ j. subst (λ (l : Streams Outgoing). SendsSame (outgoing_at e j) (unwrap_or (stream_at l j) nothing_sent)) (sym (pulled_out e id p)) (sends_same (outgoing_at e j));
  same = λ j off. pulled_in e id p j (λ n k. SameCounts (incoming_at e n) k) same (λ apart. same_counts (incoming_at e j));
  kept = λ j on. absurd (cc);
  announced = (answer_streams p.answer (replied (with_incoming e id p.incoming) p.replies)).2;
}

-- no more than the final head of a message is its final head
no_head_behind : (p : Party) (before : Option Part) (start : ℕ) (parts : List Part) (n : ℕ) (s : Section) → AreSent p before start parts → is_before before ≡ false → slice_get parts n ≡ Some (HeadPart s) → ⊥
no_head_behind p before start [] n s h off next = absurd (cc)
no_head_behind p before start (Interim t ∷ parts) n s h off next = absurd (let never : false ≡ true = sym off ∙ h.0 in cc)
no_head_behind p before start (HeadPart t ∷ parts) n s h off next = absurd (let never : false ≡ true = sym off ∙ h.0 in cc)
no_head_behind p before start (Body bytes end ∷ parts) zero s h off next = absurd (cc)
no_head_behind p before start (Body bytes end ∷ parts) (suc n) s h off next = no_head_behind p (Some (Body bytes end)) _ parts n s h.2 refl next
no_head_behind p before start (Trailer t ∷ parts) zero s h off next = absurd (cc)
no_head_behind p before start (Trailer t ∷ parts) (suc n) s h off next = no_head_behind p (Some (Trailer t)) _ parts n s h.2 refl next
no_head_behind p before start (End ∷ parts) zero s h off next = absurd (cc)
no_head_behind p before start (End ∷ parts) (suc n) s h off next = no_head_behind p (Some End) _ parts n s h.2 refl next

section_of_head : (s t : Section) → ◌≡◌ {A = Option Part} (Some (HeadPart t)) (Some (HeadPart s)) → t ≡ s
section_of_head s t e = ap (λ o. by (unwrap_or o (HeadPart t))) e
  where
    by : Part → Section
    by (HeadPart x) = x
    by (Interim x) = x
    by (Trailer x) = x
    by (Body bytes end) = t
    by End = t

pub head_asks : (p : Party) (before : Option Part) (start : ℕ) (parts : List Part) (n : ℕ) (s : Section) → AreSent p before start parts → slice_get parts n ≡ Some (HeadPart s) → (asked_in parts ≡ awaited_by s.fields) × (has_head parts ≡ true)
head_asks p before start [] n s h next = absurd (cc)
head_asks p before start (HeadPart t ∷ parts) zero s h next = (ap (λ (x : Section). awaited_by x.fields) (section_of_head s t next), refl)
head_asks p before start (HeadPart t ∷ parts) (suc n) s h next = absurd (no_head_behind p (Some (HeadPart t)) _ parts n s h.2 refl next)
head_asks p before start (Interim t ∷ parts) zero s h next = absurd (cc)
head_asks p before start (Interim t ∷ parts) (suc n) s h next = head_asks p (Some (Interim t)) _ parts n s h.2 next
head_asks p before start (Body bytes end ∷ parts) zero s h next = absurd (cc)
head_asks p before start (Body bytes end ∷ parts) (suc n) s h next = head_asks p (Some (Body bytes end)) _ parts n s h.2 next
head_asks p before start (Trailer t ∷ parts) zero s h next = absurd (cc)
head_asks p before start (Trailer t ∷ parts) (suc n) s h next = head_asks p (Some (Trailer t)) _ parts n s h.2 next
head_asks p before start (End ∷ parts) zero s h next = absurd (cc)
head_asks p before start (End ∷ parts) (suc n) s h next = head_asks p (Some End) _ parts n s h.2 next

-- the part of which a head was handed out
pub head_part_of : (most : ℕ) (f : Flow) (part : Option Part) (q : Pull) (it : Item) → q ≡ pull.Item it → hands_head q ≡ true → HasCome most f part it → (s : Section) × (part ≡ Some (HeadPart s))
head_part_of most f part q it is head come = of_item it (ap hands_head (sym is) ∙ head) part come
  where
    of_item : (it : Item) → hands_head (pull.Item it) ≡ true → (part : Option Part) → HasCome most f part it → (s : Section) × (part ≡ Some (HeadPart s))
    of_item (item.Head x) on (Some (HeadPart s)) come = (s, refl)
    of_item (item.Head x) on None come = absurd come
    of_item (item.Head x) on (Some (Interim s)) come = absurd (let never : item.Head x ≡ item.Interim _ = come.1.0 in cc)
    of_item (item.Head x) on (Some (Trailer s)) come = absurd (let never : item.Head x ≡ item.Trailer _ = come.1.0 in cc)
    of_item (item.Head x) on (Some (Body bytes end)) come = absurd (let never : item.Head x ≡ item.Body _ = come.3 in cc)
    of_item (item.Head x) on (Some End) come = absurd (let never : item.Head x ≡ item.End = come.1 in cc)
    of_item (item.Interim x) on part come = absurd (cc)
    of_item (item.Trailer x) on part come = absurd (cc)
    of_item (item.Body x) on part come = absurd (cc)
    of_item (item.TooLarge x) on part come = absurd (cc)
    of_item (item.Session x) on part come = absurd (cc)
    of_item (item.Raw x) on part come = absurd (cc)
    of_item item.End on part come = absurd (cc)

-- an answer that is no final head leaves what is known
pub response_stays : (q : Pull) (side : Side) (part : Option Part) (known : Option Content) → hands_head q ≡ false → response_after q side part known ≡ known
response_stays (pull.Item (item.Head x)) side part known off = absurd (cc)
response_stays (pull.Item (item.Interim x)) side part known off = refl
response_stays (pull.Item (item.Trailer x)) side part known off = refl
response_stays (pull.Item (item.Body x)) side part known off = refl
response_stays (pull.Item (item.TooLarge x)) side part known off = refl
response_stays (pull.Item (item.Session x)) side part known off = refl
response_stays (pull.Item (item.Raw x)) side part known off = refl
response_stays (pull.Item item.End) side part known off = refl
response_stays pull.Pending side part known off = refl
response_stays (pull.Waiting count) side part known off = refl
response_stays (pull.Fault f) side part known off = refl
response_stays pull.NoMessages side part known off = refl

pub item_fault : (f : Flow) (part : Option Part) (i : Item) → (after_item f part i).fault ≡ f.fault
item_fault f None i = refl
item_fault f (Some (Interim s)) i = refl
item_fault f (Some (HeadPart s)) i = refl
item_fault f (Some (Trailer s)) i = refl
item_fault f (Some End) i = refl
item_fault f (Some (Body bytes end)) (item.Body piece) = by_size (f.body_out + length piece == length bytes)
  where
    by_size : (b : Bool) → (let g : Flow = if b then record f { parts_out = f.parts_out + 1; body_out = 0; waits_for = 0 } else record f { body_out = f.body_out + length piece; waits_for = 0 } in g).fault ≡ f.fault
    by_size true = refl
    by_size false = refl
item_fault f (Some (Body bytes end)) _ = refl
