-- Lists that go out leave what is stored with the bounds, as heads and trailers do.
use Rattle.std.proofs.Common.{arith, ◌≡◌, ℕ, ◌+◌, Bool, true, false, List, [], ◌∷◌, refl, sym, ◌∙◌, ap, subst, inl, inr}
use Rattle.std.specs.Prelude.{Option, Some, None, Result, if◌then◌else◌, ◌==◌, nat_lt, count_by}
use Rattle.std.proofs.lemmas.List.Sums.{sum_by-cons}
use Rattle.std.proofs.lemmas.Grind.{common_steps}
use Rattle.std.proofs.lemmas.Bool.{cases_eq}
use Rattle.h3_field.specs.Field.{Field}
use Rattle.h3_header.specs.HeadRead.{HeadRead, IsHead, IsNone, head_by}
use Rattle.h3_connection.specs.Answers.{call_refused}
use Rattle.h3_connection.specs.Bounds.{IsBounded, OfStream, StandsBounded, TriesTwice, WaitsOnce}
use Rattle.h3_connection.specs.Calls.{IsSame}
use Rattle.h3_connection.specs.Endpoint.{EndpointHistory}
use Rattle.h3_connection.specs.Incoming.{Incoming, having_told}
use Rattle.h3_connection.specs.Sections.{written_section}
use Rattle.h3_connection.specs.Sending.{appended, asked, counted, does, encoded, fields_cost, head_part, telling_at}
use Rattle.h3_connection.specs.SendingContracts.{CutsOff}
use Rattle.h3_connection.specs.State.{EndpointState}
use Rattle.h3_connection.specs.StreamSets.{Streams, set_stream, stream_at}
use Rattle.h3_connection.specs.StreamSetLaws.{other_id, set-here, set-other}
use Rattle.h3_connection.specs.declared.event.Refusal.{Refusal}
use Rattle.h3_connection.specs.declared.event.Refusal.TheVariants as refusal
use Rattle.h3_session.specs.SendingLists.{SendsFieldList, SendsList, SendsTrailerList, after_trailer, listed_head_refusal, listed_trailer_refusal, send_fields, send_read_head, send_read_trailer, send_trailer_fields}
use Rattle.h3_session.proofs.MemoryUnchanged.{stands_unchanged}
use Rattle.h3_proto.specs.declared.stream.Side.{Side}

pub same_bounded : (old new : EndpointState) → IsSame old new → StandsBounded old → StandsBounded new
same_bounded old new same h = record { history = h.history; stands = stands_unchanged old new h.history same h.stands; bounded = h.bounded }

-- the bounds rest on these alone
rests : (e f : EndpointHistory) → f.incoming ≡ e.incoming → f.decoding.decoder ≡ e.decoding.decoder → f.announced ≡ e.announced → f.closed ≡ e.closed → IsBounded e → IsBounded f
rests e f incoming decoder announced closed h = record {
  tries = λ id. subst (λ s. OfStream TriesTwice (stream_at s id)) (sym incoming) (h.tries id);
  once = λ open_still id. subst (λ s. OfStream WaitsOnce (stream_at s id)) (sym incoming) (h.once (sym closed ∙ open_still) id);
  waiting = rw (incoming, decoder, announced) h.waiting;
}

-- what a stream awaits changes neither its tries nor what it waits for
abbrev waiting_above : ℕ → Streams Incoming → ℕ
waiting_above n streams = count_by (λ s. nat_lt n s.1.waits_for) streams

abbrev one_if : Bool → ℕ
one_if b = if b then 1 else 0

count_more : (n q : ℕ) (i : Incoming) (streams : Streams Incoming) → waiting_above n ((q, i) ∷ streams) ≡ one_if (nat_lt n i.waits_for) + waiting_above n streams
count_more n q i streams = sum_by-cons (λ s. if nat_lt n s.1.waits_for then 1 else 0) (q, i) streams

as_many_wait : (n : ℕ) (streams : Streams Incoming) (id : ℕ) (i : Incoming) (side : Side) (fields : List Field) → stream_at streams id ≡ Some i → waiting_above n (set_stream streams id (having_told side i fields)) ≡ waiting_above n streams
as_many_wait n [] id i side fields there = cc
as_many_wait n ((q, y) ∷ streams) id i side fields there = elim (cases_eq q id) [
  | inl same ↦
      let here : (q == id) ≡ true = grind (arith, common_steps) in
      let is : y.waits_for ≡ i.waits_for = ap (λ o. elim o [ None ↦ 0 | Some x ↦ x.waits_for ]) (rw here at there) in
      rw here (omega (arith, count_more n id (having_told side i fields) streams, count_more n q y streams, ap (λ w. one_if (nat_lt n w)) is))
  | inr differs ↦
      let away : (q == id) ≡ false = grind (arith, common_steps) in
      rw away (omega (arith, count_more n q y (set_stream streams id (having_told side i fields)), count_more n q y streams, as_many_wait n streams id i side fields (rw away at there)))
]

set_of : (P : Incoming → Type 0) (streams : Streams Incoming) (id q : ℕ) (i : Incoming) → P i → OfStream P (stream_at streams q) → OfStream P (stream_at (set_stream streams id i) q)
set_of P streams id q i here there = elim (cases_eq q id) [
  | inl same ↦ rw same (rw (set-here streams id i) here)
  | inr differs ↦ rw (set-other streams id q i (other_id q id differs)) there
]

tells : (e : EndpointHistory) (id : ℕ) (fields : List Field) (at : Option Incoming) → stream_at e.incoming id ≡ at → IsBounded e → IsBounded (record e { incoming = telling_at e.side e.incoming id fields at })
tells e id fields None is h = h
tells e id fields (Some i) is h = record {
  tries = λ q. set_of TriesTwice e.incoming id q (having_told e.side i fields) (subst (λ at. OfStream TriesTwice at) is (h.tries id)) (h.tries q);
  once = λ open_still q. set_of WaitsOnce e.incoming id q (having_told e.side i fields) (subst (λ at. OfStream WaitsOnce at) is (h.once open_still id)) (h.once open_still q);
  waiting = rw (as_many_wait e.decoding.decoder.table.inserted e.incoming id i e.side fields is) h.waiting;
}

asks : (e : EndpointHistory) (id : ℕ) (fields : List Field) → IsBounded e → IsBounded (asked e id fields)
asks e id fields h = by_choice e.announced.choices.strict_messages
  where
    by_choice : (b : Bool) → IsBounded (record e { incoming = if b then telling_at e.side e.incoming id fields (stream_at e.incoming id) else e.incoming; outgoing = (asked e id fields).outgoing })
    by_choice true =
        let f = record e { incoming = telling_at e.side e.incoming id fields (stream_at e.incoming id) } in
        rests f (record f { outgoing = (asked e id fields).outgoing }) refl refl refl refl (tells e id fields (stream_at e.incoming id) refl h)
    by_choice false = rests e (record e { outgoing = (asked e id fields).outgoing }) refl refl refl refl h

does_on : (r : Option Refusal) (e f : EndpointHistory) → IsBounded e → IsBounded f → IsBounded (does r e f).1
does_on (Some r) e f h k = h
does_on None e f h k = k

sends_head : (e : EndpointHistory) (id : ℕ) (fields : List Field) (read : HeadRead) → IsBounded e → IsBounded (send_read_head e id fields read).1
sends_head e id fields (IsHead head) h =
    let f = counted (appended (encoded e id fields) id (head_part head (written_section e.encoder id fields))) (fields_cost fields) in
    does_on (listed_head_refusal e id head fields) e (asked f id fields) h (asks f id fields (rests e f refl refl refl refl h))
sends_head e id fields (IsNone why) h = h

sends_trailer : (e : EndpointHistory) (id : ℕ) (fields : List Field) (read : HeadRead) → IsBounded e → IsBounded (send_read_trailer e id fields read).1
sends_trailer e id fields (IsHead trailer) h =
    let f = after_trailer e id fields in
    does_on (listed_trailer_refusal e id trailer fields) e f h (rests e f refl refl refl refl h)
sends_trailer e id fields (IsNone why) h = h

-- want of memory, or another error
abbrev is_no_memory : Refusal → Bool
is_no_memory refusal.OutOfMemory = true
is_no_memory _ = false

no_memory_is : (r : Refusal) → is_no_memory r ≡ true → r ≡ refusal.OutOfMemory
no_memory_is refusal.OutOfMemory h = refl
no_memory_is _ h = cc

abbrev CutBounded : Type 0
CutBounded = (e : EndpointHistory) (id : ℕ) (fields : List Field) (new : EndpointState) → IsBounded e → CutsOff e id fields new → StandsBounded new

list_bounded : CutBounded → (act : EndpointHistory → Option Refusal × EndpointHistory) (old new : EndpointState) (id : ℕ) (fields : List Field) (told : Option Refusal)
    → ((e : EndpointHistory) → IsBounded e → IsBounded (act e).1) → SendsList act old new id fields told → StandsBounded old → StandsBounded new
list_bounded cut act old new id fields None keeps s h = record { history = (act h.history).1; stands = (s.done h.history h.stands (λ x. cc)).1; bounded = keeps h.history h.bounded }
list_bounded cut act old new id fields (Some e) keeps s h = by (is_no_memory e) refl
  where
    by : (b : Bool) → is_no_memory e ≡ b → StandsBounded new
    by true is = cut h.history id fields new h.bounded (s.memory h.history h.stands (ap Some (no_memory_is e is))).1
    by false is = same_bounded old new (s.same (λ x. cc) (λ x. let wrong : true ≡ false = ap (λ o. elim o [ None ↦ false | Some y ↦ is_no_memory y ]) (sym x) ∙ is in cc)) h

pub fields_bounded : CutBounded → (old new : EndpointState) (id : ℕ) (fields : List Field) (result : Result Unit Refusal) → SendsFieldList old new id fields result → StandsBounded old → StandsBounded new
fields_bounded cut old new id fields result = list_bounded cut (λ e. send_fields e id fields) old new id fields (call_refused result) (λ e. sends_head e id fields (head_by e.announced.choices.extensions.any_protocol fields))

pub trailer_bounded : CutBounded → (old new : EndpointState) (id : ℕ) (fields : List Field) (result : Result Unit Refusal) → SendsTrailerList old new id fields result → StandsBounded old → StandsBounded new
trailer_bounded cut old new id fields result = list_bounded cut (λ e. send_trailer_fields e id fields) old new id fields (call_refused result) (λ e. sends_trailer e id fields (head_by e.announced.choices.extensions.any_protocol fields))
