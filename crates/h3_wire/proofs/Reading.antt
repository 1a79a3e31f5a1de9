-- What a read leaves of all the bytes that are left.
use Rattle.std.proofs.Common.{◌≡◌, inl, inr, ℕ, Bool, true, false, List, [], ◌∷◌, ◌++◌, sym, ◌∙◌, ap, ap₂, refl, append_assoc, append-nil, Result, Ok, Err, Option, Some, None}
use Rattle.std.specs.List.{concat}
use Rattle.h3_wire.specs.declared.quic.Poll.{Poll}
use Rattle.h3_wire.specs.declared.quic.Poll.TheVariants.{Ready, Pending}
use Rattle.h3_frames.specs.declared.quic.StreamErrorIncoming.{StreamErrorIncoming}
use Rattle.h3_frames.specs.declared.quic.StreamErrorIncoming.TheVariants as incoming
use Rattle.h3_wire.specs.Source.{Answer, Polls, coming, Asked, done, more}
use Rattle.h3_wire.specs.Given.{AddsPieces, asked_no_more}
use Rattle.h3_wire.proofs.GivenPieces.{gave_once}
use Rattle.h3_frames.specs.PieceLaws.{with_piece-some, concat-with_piece}
use Rattle.h3_wire.specs.Streams.{Buffered, ReadsMore, Tells, AsksFirst, stream_error}
use Rattle.h3_frames.specs.declared.frame.errors.FrameStreamError.{FrameStreamError}
use Rattle.h3_wire.specs.declared.stream.Received.{Received}
use Rattle.h3_wire.specs.declared.stream.Received.TheVariants as received
use Rattle.h3_wire.specs.Asking.{Asks, no_room, once}
use Rattle.h3_wire.proofs.Asking.{same_buffered}

-- What a read of an open stream leaves.
pub record Reading {S : Type 0} (rest : S → List ℕ) (answers : S → Answer → S → Type 0) (old new : Buffered S) : Type 0 where
  pub all : concat new.pieces ++ coming new.is_eos (rest new.source) ≡ concat old.pieces ++ coming old.is_eos (rest old.source)
  pub grows : (piece : List ℕ) × (concat new.pieces ≡ concat old.pieces ++ piece)
  pub asked : Asked answers old.source new.source

-- an open stream's source still gives its rest
opened : {S : Type 0} (rest : S → List ℕ) (old : Buffered S) → old.is_eos ≡ false → concat old.pieces ++ rest old.source ≡ concat old.pieces ++ coming old.is_eos (rest old.source)
opened rest old e = ap (λ t. concat old.pieces ++ coming t (rest old.source)) (sym e)

still : {S : Type 0} (rest : S → List ℕ) (answers : S → Answer → S → Type 0) (old new : Buffered S) (answer : Answer) → old.is_eos ≡ false
    → answers old.source answer new.source → rest new.source ≡ rest old.source → new.pieces ≡ old.pieces → new.is_eos ≡ old.is_eos → Reading rest answers old new
still rest answers old new answer open_here a same b e = record {
  all = ap₂ (λ x y. concat x ++ y) b (ap (λ t. coming t (rest new.source)) (e ∙ open_here) ∙ same) ∙ opened rest old open_here;
  grows = ([], ap concat b ∙ sym (append-nil (concat old.pieces)));
  asked = more old.source new.source new.source answer a (done new.source new.source refl);
}

unasked : {S : Type 0} (rest : S → List ℕ) (answers : S → Answer → S → Type 0) (old new : Buffered S) → old.is_eos ≡ false
    → new.source ≡ old.source → new.pieces ≡ old.pieces → new.is_eos ≡ old.is_eos → Reading rest answers old new
unasked rest answers old new open_here same b e = record {
  all = ap₂ (λ x y. concat x ++ y) b (ap (λ t. coming t (rest new.source)) (e ∙ open_here) ∙ ap rest same) ∙ opened rest old open_here;
  grows = ([], ap concat b ∙ sym (append-nil (concat old.pieces)));
  asked = done old.source new.source same;
}

pub reading : {S : Type 0} (rest : S → List ℕ) (answers : S → Answer → S → Type 0) → ((s t : S) (answer : Answer) → answers s answer t → Polls answer (rest s) (rest t))
    → (result : Poll (Result Bool StreamErrorIncoming)) (old new : Buffered S) → old.is_eos ≡ false → ReadsMore answers result old new → Reading rest answers old new
reading rest answers polls (Ready (Ok false)) old new open_here h =
    let p = polls old.source new.source (Ready (Ok (Some h.0))) h.1 in
    let bytes = ap concat h.3 ∙ concat-with_piece old.pieces h.0 in
    record {
      all = ap₂ (λ x y. x ++ y) bytes (ap (λ t. coming t (rest new.source)) (h.2 ∙ open_here)) ∙ append_assoc (concat old.pieces) h.0 (rest new.source) ∙ ap (λ l. concat old.pieces ++ l) (sym p.1) ∙ opened rest old open_here;
      grows = (h.0, bytes);
      asked = more old.source new.source new.source (Ready (Ok (Some h.0))) h.1 (done new.source new.source refl);
    }
reading rest answers polls (Ready (Ok true)) old new open_here h =
    let p = polls old.source new.source (Ready (Ok None)) h.0 in
    record {
      all = ap₂ (λ x y. concat x ++ y) h.2 (ap (λ t. coming t (rest new.source)) h.1 ∙ sym p.0) ∙ opened rest old open_here;
      grows = ([], ap concat h.2 ∙ sym (append-nil (concat old.pieces)));
      asked = more old.source new.source new.source (Ready (Ok None)) h.0 (done new.source new.source refl);
    }
reading rest answers polls (Ready (Err incoming.OutOfMemory)) old new open_here h = elim h.1 [
  | inl same ↦ unasked rest answers old new open_here same h.2 h.0
  | inr a ↦ still rest answers old new (Ready (Err incoming.OutOfMemory)) open_here a (polls old.source new.source (Ready (Err incoming.OutOfMemory)) a) h.2 h.0
]
reading rest answers polls (Ready (Err incoming.Unknown)) old new open_here h = still rest answers old new (Ready (Err incoming.Unknown)) open_here h.1 (polls old.source new.source (Ready (Err incoming.Unknown)) h.1) h.2 h.0
reading rest answers polls (Ready (Err (incoming.ConnectionErrorIncoming code))) old new open_here h = still rest answers old new (Ready (Err (incoming.ConnectionErrorIncoming code))) open_here h.1 (polls old.source new.source (Ready (Err (incoming.ConnectionErrorIncoming code))) h.1) h.2 h.0
reading rest answers polls (Ready (Err (incoming.StreamTerminated code))) old new open_here h = still rest answers old new (Ready (Err (incoming.StreamTerminated code))) open_here h.1 (polls old.source new.source (Ready (Err (incoming.StreamTerminated code))) h.1) h.2 h.0
reading rest answers polls Pending old new open_here h = still rest answers old new Pending open_here h.0 (polls old.source new.source Pending h.0) h.2 h.1

-- no error tells the end
pub error_keeps : {S : Type 0} (answers : S → Answer → S → Type 0) (e : StreamErrorIncoming) (old new : Buffered S) → ReadsMore answers (Ready (Err e)) old new → new.is_eos ≡ old.is_eos
error_keeps answers incoming.OutOfMemory old new h = h.0
error_keeps answers incoming.Unknown old new h = h.0
error_keeps answers (incoming.ConnectionErrorIncoming code) old new h = h.0
error_keeps answers (incoming.StreamTerminated code) old new h = h.0

-- and none adds a byte
pub error_adds : {S : Type 0} (answers : S → Answer → S → Type 0) (e : StreamErrorIncoming) (old new : Buffered S) → ReadsMore answers (Ready (Err e)) old new → concat new.pieces ≡ concat old.pieces
error_adds answers incoming.OutOfMemory old new h = ap concat h.2
error_adds answers incoming.Unknown old new h = ap concat h.2
error_adds answers (incoming.ConnectionErrorIncoming code) old new h = ap concat h.2
error_adds answers (incoming.StreamTerminated code) old new h = ap concat h.2

same_error : (e d : StreamErrorIncoming) (a b : Answer) → a ≡ Ready (Err e) → b ≡ Ready (Err d) → a ≡ b → e ≡ d
same_error e d a b p q r = cc

error_first : {S : Type 0} (answers : S → Answer → S → Type 0) (s t : S) (e : StreamErrorIncoming) (told : Option FrameStreamError) → answers s (Ready (Err e)) t → told ≡ Some (stream_error e) → AsksFirst answers s told
error_first answers s t e told a f = inr (Ready (Err e), t, a, λ d q. f ∙ ap (λ x. Some (stream_error x)) (same_error e d (Ready (Err e)) (Ready (Err d)) refl refl q))

-- what a read asks of the source first
pub asks_first : {S : Type 0} (answers : S → Answer → S → Type 0) (r : Poll (Result Bool StreamErrorIncoming)) (old new : Buffered S) (told : Option FrameStreamError) → ReadsMore answers r old new → ((e : StreamErrorIncoming) → r ≡ Ready (Err e) → told ≡ Some (stream_error e)) → AsksFirst answers old.source told
asks_first answers (Ready (Ok false)) old new told h f = inr (Ready (Ok (Some h.0)), new.source, h.1, λ e q. absurd (cc))
asks_first answers (Ready (Ok true)) old new told h f = inr (Ready (Ok None), new.source, h.0, λ e q. absurd (cc))
asks_first answers (Ready (Err incoming.OutOfMemory)) old new told h f = inl (f incoming.OutOfMemory refl)
asks_first answers (Ready (Err incoming.Unknown)) old new told h f = error_first answers old.source new.source incoming.Unknown told h.1 (f incoming.Unknown refl)
asks_first answers (Ready (Err (incoming.ConnectionErrorIncoming code))) old new told h f = error_first answers old.source new.source (incoming.ConnectionErrorIncoming code) told h.1 (f (incoming.ConnectionErrorIncoming code) refl)
asks_first answers (Ready (Err (incoming.StreamTerminated code))) old new told h f = error_first answers old.source new.source (incoming.StreamTerminated code) told h.1 (f (incoming.StreamTerminated code) refl)
asks_first answers Pending old new told h f = inr (Pending, new.source, h.0, λ e q. absurd (cc))

pub read_error : (r : Poll (Result Bool StreamErrorIncoming)) (e d : StreamErrorIncoming) → r ≡ Ready (Err e) → r ≡ Ready (Err d) → e ≡ d
read_error r e d p q = cc

pub tells_error : {S : Type 0} (rest : S → List ℕ) (answers : S → Answer → S → Type 0) (e : StreamErrorIncoming) (old new : Buffered S) → ReadsMore answers (Ready (Err e)) old new → Tells rest answers (Err (stream_error e)) old new
tells_error rest answers incoming.OutOfMemory old new h = tt
tells_error rest answers incoming.Unknown old new h = (old.source, h.1)
tells_error rest answers (incoming.ConnectionErrorIncoming code) old new h = (old.source, h.1)
tells_error rest answers (incoming.StreamTerminated code) old new h = (old.source, h.1)

-- what came without an error is followed by anything
pub no_error_first : {S : Type 0} (answers : S → Answer → S → Type 0) (s : S) (told : Option FrameStreamError) → AsksFirst answers s None → AsksFirst answers s told
no_error_first answers s told (inl m) = absurd (cc)
no_error_first answers s told (inr a) = inr (a.0, a.1, a.2, λ e q. let none = a.3 e q in absurd (cc))

-- the pieces that a read adds
pub adds_pieces : {S : Type 0} (rest : S → List ℕ) (answers : S → Answer → S → Type 0) → ((s t : S) (answer : Answer) → answers s answer t → Polls answer (rest s) (rest t))
    → (r : Poll (Result Bool StreamErrorIncoming)) (old new : Buffered S) → ReadsMore answers r old new → AddsPieces answers old.source old.pieces new.source new.pieces
adds_pieces rest answers polls (Ready (Ok false)) old new h =
    let some = (polls old.source new.source (Ready (Ok (Some h.0))) h.1).0 in
    (h.0 ∷ [], gave_once answers old.source new.source (Ready (Ok (Some h.0))) h.1, h.3 ∙ with_piece-some old.pieces h.0 some)
adds_pieces rest answers polls (Ready (Ok true)) old new h = ([], gave_once answers old.source new.source (Ready (Ok None)) h.0, h.2 ∙ sym (append-nil old.pieces))
adds_pieces rest answers polls (Ready (Err incoming.OutOfMemory)) old new h = elim h.1 [
  | inl same ↦ ([], asked_no_more old.source new.source [] same refl, h.2 ∙ sym (append-nil old.pieces))
  | inr a ↦ ([], gave_once answers old.source new.source (Ready (Err incoming.OutOfMemory)) a, h.2 ∙ sym (append-nil old.pieces))
]
adds_pieces rest answers polls (Ready (Err incoming.Unknown)) old new h = ([], gave_once answers old.source new.source (Ready (Err incoming.Unknown)) h.1, h.2 ∙ sym (append-nil old.pieces))
adds_pieces rest answers polls (Ready (Err (incoming.ConnectionErrorIncoming code))) old new h = ([], gave_once answers old.source new.source (Ready (Err (incoming.ConnectionErrorIncoming code))) h.1, h.2 ∙ sym (append-nil old.pieces))
adds_pieces rest answers polls (Ready (Err (incoming.StreamTerminated code))) old new h = ([], gave_once answers old.source new.source (Ready (Err (incoming.StreamTerminated code))) h.1, h.2 ∙ sym (append-nil old.pieces))
adds_pieces rest answers polls Pending old new h = ([], gave_once answers old.source new.source Pending h.0, h.2 ∙ sym (append-nil old.pieces))

-- and none where the source is not asked
pub adds_none : {S : Type 0} (answers : S → Answer → S → Type 0) (s t : S) (old new : List (List ℕ)) → t ≡ s → new ≡ old → AddsPieces answers s old t new
adds_none answers s t old new same e = ([], asked_no_more s t [] same refl, e ∙ sym (append-nil old))

-- what a read answers, as it is told
abbrev pub told_of : Poll (Result Bool StreamErrorIncoming) → Result Received FrameStreamError
told_of (Ready (Ok false)) = Ok received.More
told_of (Ready (Ok true)) = Ok received.End
told_of (Ready (Err e)) = Err (stream_error e)
told_of Pending = Ok received.Nothing

asks_error : {S : Type 0} (answers : S → Answer → S → Type 0) (old new : Buffered S) (e : StreamErrorIncoming) → old.is_eos ≡ false → answers old.source (Ready (Err e)) new.source
    → new.is_eos ≡ old.is_eos → new.pieces ≡ old.pieces → Asks answers old (Err (stream_error e)) new
asks_error answers old new e open_here a k p =
    once (Ready (Err e)) open_here a refl (p ∙ sym (append-nil old.pieces)) (k ∙ open_here)

-- a read of an open stream asks once
pub asks_of : {S : Type 0} (rest : S → List ℕ) (answers : S → Answer → S → Type 0) → ((s t : S) (answer : Answer) → answers s answer t → Polls answer (rest s) (rest t))
    → (r : Poll (Result Bool StreamErrorIncoming)) (old new : Buffered S) → old.is_eos ≡ false → ReadsMore answers r old new → Asks answers old (told_of r) new
asks_of rest answers polls (Ready (Ok false)) old new open_here h =
    let some = (polls old.source new.source (Ready (Ok (Some h.0))) h.1).0 in
    once (Ready (Ok (Some h.0))) open_here h.1 refl (h.3 ∙ with_piece-some old.pieces h.0 some) (h.2 ∙ open_here)
asks_of rest answers polls (Ready (Ok true)) old new open_here h =
    once (Ready (Ok None)) open_here h.0 refl (h.2 ∙ sym (append-nil old.pieces)) h.1
asks_of rest answers polls (Ready (Err incoming.OutOfMemory)) old new open_here h = elim h.1 [
  | inl same ↦ no_room open_here refl (same_buffered new old h.2 same h.0)
  | inr a ↦ asks_error answers old new incoming.OutOfMemory open_here a h.0 h.2
]
asks_of rest answers polls (Ready (Err incoming.Unknown)) old new open_here h = asks_error answers old new incoming.Unknown open_here h.1 h.0 h.2
asks_of rest answers polls (Ready (Err (incoming.ConnectionErrorIncoming code))) old new open_here h = asks_error answers old new (incoming.ConnectionErrorIncoming code) open_here h.1 h.0 h.2
asks_of rest answers polls (Ready (Err (incoming.StreamTerminated code))) old new open_here h = asks_error answers old new (incoming.StreamTerminated code) open_here h.1 h.0 h.2
asks_of rest answers polls Pending old new open_here h =
    once Pending open_here h.0 refl (h.2 ∙ sym (append-nil old.pieces)) (h.1 ∙ open_here)
