-- What a call answers and leaves rests on its own buffer and source alone: where a source answers in one way, so does each call,
-- want of memory aside.
use Rattle.std.proofs.Common.{◌≡◌, ◌⊎◌, inl, inr, ℕ, Bool, true, false, List, [], ◌∷◌, ◌++◌, length, refl, sym, ◌∙◌, ap, ap₂, subst, Result, Ok, Err, Option, Some, None}
use Rattle.std.specs.List.{concat}
use Rattle.h3_wire.specs.declared.quic.Poll.{Poll}
use Rattle.h3_wire.specs.declared.quic.Poll.TheVariants.{Ready}
use Rattle.h3_frames.specs.declared.proto.frame.PayloadLen.{PayloadLen}
use Rattle.h3_frames.specs.declared.proto.frame.Frame.{Frame}
use Rattle.h3_frames.specs.declared.proto.frame.FrameError.{FrameError}
use Rattle.h3_frames.specs.declared.proto.frame.FrameError.TheVariants as error
use Rattle.h3_frames.specs.declared.frame.errors.FrameProtocolError.{FrameProtocolError}
use Rattle.h3_frames.specs.declared.frame.errors.FrameProtocolError.TheVariants as protocol
use Rattle.h3_frames.specs.declared.frame.errors.FrameStreamError.{FrameStreamError}
use Rattle.h3_frames.specs.declared.frame.errors.FrameStreamError.TheVariants as stream
use Rattle.h3_wire.specs.declared.frame.payload_left.PayloadLeft.{PayloadLeft}
use Rattle.h3_wire.specs.declared.stream.Received.{Received}
use Rattle.h3_wire.specs.Source.{Answer, Asked, done, more}
use Rattle.h3_wire.specs.Buffering.{AnswersFrom, buffered, ended, asked, ends}
use Rattle.h3_frames.specs.Frames.{Front, Whole, Unknown, Refused, Unfinished, frame_at, plain_frames}
use Rattle.h3_wire.specs.Given.{piece_in}
use Rattle.h3_frames.specs.Known.{known, refusal, IsWaiting, Gives}
use Rattle.h3_frames.specs.Pieces.{ending}
use Rattle.h3_wire.specs.Cut.{cut}
use Rattle.h3_wire.specs.Streams.{Buffered, Framing, stream_part}
use Rattle.h3_frames.specs.Tries.{Decoding}
use Rattle.h3_wire.specs.Asking.{Asks, at_end, no_room, once, told_by, Looks, IsRound, answer_of, payload_found, Rounds, bytes_of, payload_without, TakesFirst, is_short, data_of, ReadsOnce, read_fails, answers_with, goes_on, closed, fails, cut_short, no_memory, takes}
use Rattle.h3_wire.specs.OneAnswer.{IsFunction, IsMemory, OneAnswer}

-- streams of which the same is seen
pub same_buffered : {S : Type 0} (a b : Buffered S) → a.pieces ≡ b.pieces → a.source ≡ b.source → a.is_eos ≡ b.is_eos → a ≡ b
same_buffered {S} a b pieces source is_eos =
    ap (λ (x : List (List ℕ)). record a { pieces = x }) pieces
    ∙ ap (λ (x : S). record a { pieces = b.pieces; source = x }) source
    ∙ ap (λ (x : Bool). record a { pieces = b.pieces; source = b.source; is_eos = x }) is_eos

truth_apart : {A : Type 0} → true ≡ false → A
truth_apart e = absurd (cc)

no_piece : {A : Type 0} (piece : List ℕ) (pieces : List (List ℕ)) → piece ∷ pieces ≡ [] → A
no_piece piece pieces e = absurd (cc)

module _ {S : Type 0} (answers : S → Answer → S → Type 0) (one : IsFunction answers) where
  -- one read of a stream
  pub same_asks : (old new new' : Buffered S) (told told' : Result Received FrameStreamError) → Asks answers old told new → Asks answers old told' new'
      → (told ≡ Err stream.OutOfMemory) ⊎ ((told' ≡ Err stream.OutOfMemory) ⊎ ((told ≡ told') × (new ≡ new')))
  same_asks old new new' told told' (at_end e t n) (at_end e' t' n') = inr (inr (t ∙ sym t', n ∙ sym n'))
  same_asks old new new' told told' (at_end e t n) (no_room e' t' n') = truth_apart (sym e ∙ e')
  same_asks old new new' told told' (at_end e t n) (once a e' s t' p k) = truth_apart (sym e ∙ e')
  same_asks old new new' told told' (no_room e t n) h = inl t
  same_asks old new new' told told' (once a e s t p k) (at_end e' t' n') = truth_apart (sym e' ∙ e)
  same_asks old new new' told told' (once a e s t p k) (no_room e' t' n') = inr (inl t')
  same_asks old new new' told told' (once a e s t p k) (once a' e' s' t' p' k') =
      let f = one old.source new.source new'.source a a' s s' in
      inr (inr (
        t ∙ ap told_by f.0 ∙ sym t',
        same_buffered new new' (p ∙ ap (λ x. old.pieces ++ piece_in x) f.0 ∙ sym p') f.1 (k ∙ ap ends f.0 ∙ sym k'),
      ))

ok_same : {A E : Type 0} (v w : A) (a b : Result A E) → a ≡ Ok v → b ≡ Ok w → a ≡ b → v ≡ w
ok_same v w a b p q r = cc

err_same : {A : Type 0} (e d : FrameStreamError) (a b : Result A FrameStreamError) → a ≡ Err e → b ≡ Err d → a ≡ b → e ≡ d
err_same e d a b p q r = cc

some_same : {A : Type 0} (v w : A) (a b : Option A) → a ≡ Some v → b ≡ Some w → a ≡ b → v ≡ w
some_same v w a b p q r = cc

some_apart : {A B : Type 0} (v : A) (a b : Option A) → a ≡ Some v → b ≡ None → a ≡ b → B
some_apart v a b p q r = absurd (cc)

result_apart : {A B : Type 0} (v : A) (e : FrameStreamError) (a b : Result A FrameStreamError) → a ≡ Ok v → b ≡ Err e → a ≡ b → B
result_apart v e a b p q r = absurd (cc)

pub same_framing : {S : Type 0} (a b : Framing S) → stream_part a ≡ stream_part b → a.payload ≡ b.payload → a.decoder ≡ b.decoder → a ≡ b
same_framing {S} a b stream payload decoder =
    ap (λ (x : Buffered S). record a { pieces = x.pieces; source = x.source; is_eos = x.is_eos }) stream
    ∙ ap (λ (x : PayloadLeft). record b { payload = x; decoder = a.decoder }) payload
    ∙ ap (λ (x : Decoding). record b { decoder = x }) decoder

-- the error of a frame as a stream tells it, read back
abbrev protocol_of : FrameError → FrameProtocolError
protocol_of (error.UnsupportedFrame kind) = protocol.ForbiddenFrame kind
protocol_of error.InvalidFrameValue = protocol.InvalidFrameValue
protocol_of (error.Settings e) = protocol.Settings e
protocol_of (error.InvalidStreamId e) = protocol.InvalidStreamId e
protocol_of (error.InvalidPushId e) = protocol.InvalidPushId e
protocol_of _ = protocol.Malformed

told_back : (e : FrameProtocolError) → protocol_of (refusal e) ≡ e
told_back protocol.Malformed = refl
told_back (protocol.ForbiddenFrame kind) = refl
told_back protocol.InvalidFrameValue = refl
told_back (protocol.Settings e) = refl
told_back (protocol.InvalidStreamId e) = refl
told_back (protocol.InvalidPushId e) = refl

-- what a look finds at a front that is no unknown frame, and what it leaves
abbrev found_at : Front → Result (Option (Frame PayloadLen)) FrameStreamError
found_at (Whole f rest) = Ok (Some f)
found_at (Refused e) = Err (stream.Proto (protocol_of e))
found_at _ = Ok None

abbrev left_at : Front → List ℕ → List ℕ
left_at (Whole f rest) bytes = rest
left_at _ bytes = bytes

waiting_is : (x : Front) (bytes : List ℕ) → IsWaiting x → (found_at x ≡ Ok None) × (left_at x bytes ≡ bytes)
waiting_is (Unfinished least) bytes h = (refl, refl)
waiting_is (Whole f rest) bytes h = absurd h
waiting_is (Unknown kind rest) bytes h = absurd h
waiting_is (Refused e) bytes h = absurd h

given_is : (found : Result (Option (Frame PayloadLen)) FrameStreamError) (old new : List ℕ) → Gives plain_frames found old new
    → (found ≡ Err stream.OutOfMemory) ⊎ ((found ≡ found_at (frame_at (known old))) × (new ≡ left_at (frame_at (known old)) (known old)))
given_is (Ok (Some f)) old new h = inr (sym (ap found_at h), sym (ap (λ x. left_at x (known old)) h))
given_is (Ok None) old new h =
    let w = waiting_is (frame_at (known old)) (known old) (subst (λ l. IsWaiting (frame_at l)) h.0 h.1) in
    inr (sym w.0, h.0 ∙ sym w.1)
given_is (Err (stream.Proto e)) old new h =
    let r : frame_at (known old) ≡ Refused (refusal e) = ap frame_at (sym h.0) ∙ h.1 in
    inr (sym (ap found_at r ∙ ap (λ p. Err (stream.Proto p)) (told_back e)), h.0 ∙ sym (ap (λ x. left_at x (known old)) r))
given_is (Err stream.OutOfMemory) old new h = inl refl
given_is (Err (stream.Quic e)) old new h = absurd h
given_is (Err stream.UnexpectedEnd) old new h = absurd h

-- A decoder gives what the bytes say.
pub same_gives : (found found' : Result (Option (Frame PayloadLen)) FrameStreamError) (old new new' : List ℕ) → Gives plain_frames found old new → Gives plain_frames found' old new'
    → (found ≡ Err stream.OutOfMemory) ⊎ ((found' ≡ Err stream.OutOfMemory) ⊎ ((found ≡ found') × (new ≡ new')))
same_gives found found' old new new' g h = elim (given_is found old new g) [
  | inl m ↦ inl m
  | inr a ↦ elim (given_is found' old new' h) [
    | inl m ↦ inr (inl m)
    | inr b ↦ inr (inr (a.0 ∙ sym b.0, a.1 ∙ sym b.1))
  ]
]

same_looks : {S : Type 0} (old new new' : Buffered S) (before before' after after' : Decoding) (found found' : Result (Option (Frame PayloadLen)) FrameStreamError) → Looks old before found new after → Looks old before' found' new' after'
    → (found ≡ Err stream.OutOfMemory) ⊎ ((found' ≡ Err stream.OutOfMemory) ⊎ ((found ≡ found') × (new ≡ new')))
same_looks old new new' before before' after after' found found' l m = elim (same_gives found found' (concat old.pieces) (concat new.pieces) (concat new'.pieces) l.gives m.gives) [
  | inl x ↦ inl x
  | inr r ↦ elim r [
    | inl x ↦ inr (inl x)
    | inr s ↦ inr (inr (s.0, same_buffered new new' (l.pieces ∙ ap (λ x. ending (length x) old.pieces) s.1 ∙ sym m.pieces) (l.source ∙ sym m.source) (l.is_eos ∙ sym m.is_eos)))
  ]
]

memory_answer : (told : Received) (left : List ℕ) (answer : Poll (Result (Option (Frame PayloadLen)) FrameStreamError)) (found : Result (Option (Frame PayloadLen)) FrameStreamError)
    → found ≡ Err stream.OutOfMemory → answer_of told found left ≡ Some answer → IsMemory answer
memory_answer told left answer found m e = sym (some_same (Ready (Err stream.OutOfMemory)) answer (answer_of told (Err stream.OutOfMemory) left) (answer_of told found left) refl e (ap (λ f. answer_of told f left) (sym m)))

memory_ends : {A : Type 0} (told : Received) (left : List ℕ) (found : Result (Option (Frame PayloadLen)) FrameStreamError) → found ≡ Err stream.OutOfMemory → answer_of told found left ≡ None → A
memory_ends told left found m e = some_apart (Ready (Err stream.OutOfMemory)) (answer_of told (Err stream.OutOfMemory) left) (answer_of told found left) refl e (ap (λ f. answer_of told f left) (sym m))

-- Two rounds that tell, find and leave the same.
record SameRound {S : Type 0} (told told' : Received) (found found' : Result (Option (Frame PayloadLen)) FrameStreamError) (new new' : Framing S) : Type 0 where
  same_told : told ≡ told'
  same_found : found ≡ found'
  stream : stream_part new ≡ stream_part new'
  payload : new.payload ≡ new'.payload

same_answer_of : {S : Type 0} (told told' : Received) (found found' : Result (Option (Frame PayloadLen)) FrameStreamError) (new new' : Framing S) → SameRound told told' found found' new new'
    → answer_of told found (concat new.pieces) ≡ answer_of told' found' (concat new'.pieces)
same_answer_of {S} told told' found found' new new' s =
    ap₂ (λ t f. answer_of t f (concat new.pieces)) s.same_told s.same_found ∙ ap (λ (x : Buffered S). answer_of told' found' (concat x.pieces)) s.stream

module _ {S : Type 0} (answers : S → Answer → S → Type 0) (one : IsFunction answers) where
  -- a read that is no error
  same_ok : (old x y : Buffered S) (told told' : Received) → Asks answers old (Ok told) x → Asks answers old (Ok told') y → (told ≡ told') × (x ≡ y)
  same_ok old x y told told' a b = elim (same_asks answers one old x y (Ok told) (Ok told') a b) [
    | inl m ↦ result_apart told stream.OutOfMemory _ _ refl refl m
    | inr r ↦ elim r [
      | inl m ↦ result_apart told' stream.OutOfMemory _ _ refl refl m
      | inr s ↦ (ok_same told told' _ _ refl refl s.0, s.1)
    ]
  ]

  -- an error and none: only want of memory is so
  error_alone : (old x y : Buffered S) (e : FrameStreamError) (told : Received) → Asks answers old (Err e) x → Asks answers old (Ok told) y → e ≡ stream.OutOfMemory
  error_alone old x y e told a b = elim (same_asks answers one old x y (Err e) (Ok told) a b) [
    | inl m ↦ err_same e stream.OutOfMemory _ _ refl refl m
    | inr r ↦ elim r [
      | inl m ↦ result_apart told stream.OutOfMemory _ _ refl refl m
      | inr s ↦ result_apart told e _ _ refl refl (sym s.0)
    ]
  ]

  same_round : (old old' new new' : Framing S) (told told' : Received) (found found' : Result (Option (Frame PayloadLen)) FrameStreamError) → stream_part old ≡ stream_part old' → old.payload ≡ old'.payload
      → IsRound answers old told found new → IsRound answers old' told' found' new'
      → (found ≡ Err stream.OutOfMemory) ⊎ ((found' ≡ Err stream.OutOfMemory) ⊎ SameRound told told' found found' new new')
  same_round old old' new new' told told' found found' same left r r' =
      let asks = subst (λ s. Asks answers s (Ok told') r'.read) (sym same) r'.asks in
      let k = same_ok (stream_part old) r.read r'.read told told' r.asks asks in
      let looks = subst (λ b. Looks b old'.decoder found' (stream_part new') new'.decoder) (sym k.1) r'.looks in
      elim (same_looks r.read (stream_part new) (stream_part new') old.decoder old'.decoder new.decoder new'.decoder found found' r.looks looks) [
        | inl m ↦ inl m
        | inr u ↦ elim u [
          | inl m ↦ inr (inl m)
          | inr v ↦ inr (inr (record { same_told = k.0; same_found = v.0; stream = v.1; payload = r.payload ∙ ap₂ payload_found v.0 left ∙ sym r'.payload }))
        ]
      ]

  -- **What `poll_next` answers and leaves rests on its own buffer and source alone.**
  pub same_rounds : (old old' new new' : Framing S) (r r' : Poll (Result (Option (Frame PayloadLen)) FrameStreamError)) → stream_part old ≡ stream_part old' → old.payload ≡ old'.payload
      → Rounds answers old r new → Rounds answers old' r' new'
      → IsMemory r ⊎ (IsMemory r' ⊎ ((r ≡ r') × (stream_part new ≡ stream_part new') × (new.payload ≡ new'.payload)))
  same_rounds old old' new new' r r' same left (read_fails a b e x q d) (read_fails a' b' e' x' q' d') =
      elim (same_asks answers one (stream_part a) (stream_part b) (stream_part b') (Err e) (Err e') x (subst (λ s. Asks answers s (Err e') (stream_part b')) (sym same) x')) [
        | inl m ↦ inl (ap (λ y. Ready (Err y)) (err_same e stream.OutOfMemory _ _ refl refl m))
        | inr u ↦ elim u [
          | inl m ↦ inr (inl (ap (λ y. Ready (Err y)) (err_same e' stream.OutOfMemory _ _ refl refl m)))
          | inr v ↦ inr (inr (ap (λ y. Ready (Err y)) (err_same e e' _ _ refl refl v.0), v.1, q ∙ left ∙ sym q'))
        ]
      ]
  same_rounds old old' new new' r r' same left (read_fails a b e x q d) (answers_with a' b' told found answer round is) =
      inl (ap (λ y. Ready (Err y)) (error_alone (stream_part a) (stream_part b) round.read e told x (subst (λ s. Asks answers s (Ok told) round.read) (sym same) round.asks)))
  same_rounds old old' new new' r r' same left (read_fails a b e x q d) (goes_on a' m' b' told found answer round is h) =
      inl (ap (λ y. Ready (Err y)) (error_alone (stream_part a) (stream_part b) round.read e told x (subst (λ s. Asks answers s (Ok told) round.read) (sym same) round.asks)))
  same_rounds old old' new new' r r' same left (answers_with a b told found answer round is) (read_fails a' b' e x q d) =
      inr (inl (ap (λ y. Ready (Err y)) (error_alone (stream_part a') (stream_part b') round.read e told x (subst (λ s. Asks answers s (Ok told) round.read) same round.asks))))
  same_rounds old old' new new' r r' same left (answers_with a b told found answer round is) (answers_with a' b' told' found' answer' round' is') =
      elim (same_round a a' b b' told told' found found' same left round round') [
        | inl m ↦ inl (memory_answer told (concat b.pieces) answer found m is)
        | inr u ↦ elim u [
          | inl m ↦ inr (inl (memory_answer told' (concat b'.pieces) answer' found' m is'))
          | inr s ↦ inr (inr (some_same answer answer' _ _ is is' (same_answer_of told told' found found' b b' s), s.stream, s.payload))
        ]
      ]
  same_rounds old old' new new' r r' same left (answers_with a b told found answer round is) (goes_on a' m' b' told' found' answer' round' is' h) =
      elim (same_round a a' b m' told told' found found' same left round round') [
        | inl m ↦ inl (memory_answer told (concat b.pieces) answer found m is)
        | inr u ↦ elim u [
          | inl m ↦ memory_ends told' (concat m'.pieces) found' m is'
          | inr s ↦ some_apart answer _ _ is is' (same_answer_of told told' found found' b m' s)
        ]
      ]
  same_rounds old old' new new' r r' same left (goes_on a m b told found answer round is h) (read_fails a' b' e x q d) =
      inr (inl (ap (λ y. Ready (Err y)) (error_alone (stream_part a') (stream_part b') round.read e told x (subst (λ s. Asks answers s (Ok told) round.read) same round.asks))))
  same_rounds old old' new new' r r' same left (goes_on a m b told found answer round is h) (answers_with a' b' told' found' answer' round' is') =
      elim (same_round a a' m b' told told' found found' same left round round') [
        | inl n ↦ memory_ends told (concat m.pieces) found n is
        | inr u ↦ elim u [
          | inl n ↦ inr (inl (memory_answer told' (concat b'.pieces) answer' found' n is'))
          | inr s ↦ some_apart answer' _ _ is' is (sym (same_answer_of told told' found found' m b' s))
        ]
      ]
  same_rounds old old' new new' r r' same left (goes_on a m b told found answer round is h) (goes_on a' m' b' told' found' answer' round' is' h') =
      elim (same_round a a' m m' told told' found found' same left round round') [
        | inl n ↦ memory_ends told (concat m.pieces) found n is
        | inr u ↦ elim u [
          | inl n ↦ memory_ends told' (concat m'.pieces) found' n is'
          | inr s ↦ same_rounds m m' b b' answer answer' s.stream s.payload h h'
        ]
      ]

  same_first : (read read' : Buffered S) (left : PayloadLeft) (taken taken' : Option (List ℕ)) (new new' : Framing S) → read ≡ read' → TakesFirst read left taken new → TakesFirst read' left taken' new'
      → (taken ≡ taken') × (stream_part new ≡ stream_part new') × (new.payload ≡ new'.payload)
  same_first read read' left taken taken' new new' same f f' =
      let both = f.pieces ∙ ap (λ (x : Buffered S). cut left x.pieces) same ∙ sym f'.pieces in
      let bytes : taken ≡ taken' = ap (λ (x : Option (List ℕ) × List (List ℕ)). x.0) both in
      let pieces : new.pieces ≡ new'.pieces = ap (λ (x : Option (List ℕ) × List (List ℕ)). x.1) both in (
        bytes,
        same_buffered (stream_part new) (stream_part new') pieces
            (f.source ∙ ap (λ (x : Buffered S). x.source) same ∙ sym f'.source) (f.is_eos ∙ ap (λ (x : Buffered S). x.is_eos) same ∙ sym f'.is_eos),
        f.payload ∙ ap (λ t. payload_without (bytes_of t) left) bytes ∙ sym f'.payload,
      )

  -- **What `poll_data` answers and leaves rests on its own buffer and source alone.**
  pub same_reads : (old new new' : Framing S) (r r' : Poll (Result (Option (List ℕ)) FrameStreamError)) → ReadsOnce answers old r new → ReadsOnce answers old r' new'
      → IsMemory r ⊎ (IsMemory r' ⊎ ((r ≡ r') × (new ≡ new')))
  same_reads old new new' r r' (closed o a n) (closed o' a' n') = inr (inr (a ∙ sym a', n ∙ sym n'))
  same_reads old new new' r r' (closed o a n) (fails e o' x a' p d) = truth_apart (sym o' ∙ o)
  same_reads old new new' r r' (closed o a n) (cut_short told o' x s a' p d) = truth_apart (sym o' ∙ o)
  same_reads old new new' r r' (closed o a n) (no_memory told o' x s a' p d) = truth_apart (sym o' ∙ o)
  same_reads old new new' r r' (closed o a n) (takes told read taken o' x s f a' d) = truth_apart (sym o' ∙ o)
  same_reads old new new' r r' (fails e o x a p d) (closed o' a' n') = truth_apart (sym o ∙ o')
  same_reads old new new' r r' (fails e o x a p d) (fails e' o' x' a' p' d') =
      elim (same_asks answers one (stream_part old) (stream_part new) (stream_part new') (Err e) (Err e') x x') [
        | inl m ↦ inl (a ∙ ap (λ y. Ready (Err y)) (err_same e stream.OutOfMemory _ _ refl refl m))
        | inr u ↦ elim u [
          | inl m ↦ inr (inl (a' ∙ ap (λ y. Ready (Err y)) (err_same e' stream.OutOfMemory _ _ refl refl m)))
          | inr v ↦ inr (inr (a ∙ ap (λ y. Ready (Err y)) (err_same e e' _ _ refl refl v.0) ∙ sym a', same_framing new new' v.1 (p ∙ sym p') (d ∙ sym d')))
        ]
      ]
  same_reads old new new' r r' (fails e o x a p d) (cut_short told o' x' s a' p' d') =
      inl (a ∙ ap (λ y. Ready (Err y)) (error_alone (stream_part old) (stream_part new) (stream_part new') e told x x'))
  same_reads old new new' r r' (fails e o x a p d) (no_memory told o' x' s a' p' d') = inr (inl a')
  same_reads old new new' r r' (fails e o x a p d) (takes told read taken o' x' s f a' d') =
      inl (a ∙ ap (λ y. Ready (Err y)) (error_alone (stream_part old) (stream_part new) read e told x x'))
  same_reads old new new' r r' (cut_short told o x s a p d) (closed o' a' n') = truth_apart (sym o ∙ o')
  same_reads old new new' r r' (cut_short told o x s a p d) (fails e o' x' a' p' d') =
      inr (inl (a' ∙ ap (λ y. Ready (Err y)) (error_alone (stream_part old) (stream_part new') (stream_part new) e told x' x)))
  same_reads old new new' r r' (cut_short told o x s a p d) (cut_short told' o' x' s' a' p' d') =
      let k = same_ok (stream_part old) (stream_part new) (stream_part new') told told' x x' in
      inr (inr (a ∙ sym a', same_framing new new' k.1 (p ∙ sym p') (d ∙ sym d')))
  same_reads old new new' r r' (cut_short told o x s a p d) (no_memory told' o' x' s' a' p' d') = inr (inl a')
  same_reads old new new' r r' (cut_short told o x s a p d) (takes told' read taken o' x' s' f a' d') =
      let k = same_ok (stream_part old) (stream_part new) read told told' x x' in
      truth_apart (sym s ∙ ap₂ (λ t b. is_short t old.payload b) k.0 k.1 ∙ s')
  same_reads old new new' r r' (no_memory told o x s a p d) h = inl a
  same_reads old new new' r r' (takes told read taken o x s f a d) (closed o' a' n') = truth_apart (sym o ∙ o')
  same_reads old new new' r r' (takes told read taken o x s f a d) (fails e o' x' a' p' d') =
      inr (inl (a' ∙ ap (λ y. Ready (Err y)) (error_alone (stream_part old) (stream_part new') read e told x' x)))
  same_reads old new new' r r' (takes told read taken o x s f a d) (cut_short told' o' x' s' a' p' d') =
      let k = same_ok (stream_part old) (stream_part new') read told' told x' x in
      truth_apart (sym s' ∙ ap₂ (λ t b. is_short t old.payload b) k.0 k.1 ∙ s)
  same_reads old new new' r r' (takes told read taken o x s f a d) (no_memory told' o' x' s' a' p' d') = inr (inl a')
  same_reads old new new' r r' (takes told read taken o x s f a d) (takes told' read' taken' o' x' s' f' a' d') =
      let k = same_ok (stream_part old) read read' told told' x x' in
      let g = same_first read read' old.payload taken taken' new new' k.1 f f' in
      inr (inr (a ∙ ap₂ data_of k.0 g.0 ∙ sym a', same_framing new new' g.1 g.2 (d ∙ sym d')))

  -- **A source with a buffer before it has one answer where the source has one.**
  pub buffered_is_function : IsFunction (AnswersFrom answers)
  buffered_is_function s t u a b (buffered piece is some parts source is_eos) (buffered piece' is' some' parts' source' is_eos') =
      let both : piece ∷ t.pieces ≡ piece' ∷ u.pieces = sym parts ∙ parts' in
      let same : piece ≡ piece' = cc in
      let others : t.pieces ≡ u.pieces = cc in (
        is ∙ ap (λ p. Ready (Ok (Some p))) same ∙ sym is',
        same_buffered t u others (source ∙ sym source') (is_eos ∙ sym is_eos'),
      )
  buffered_is_function s t u a b (buffered piece is some parts source is_eos) (ended is' none at_end' same) =
      no_piece piece t.pieces (sym parts ∙ none)
  buffered_is_function s t u a b (buffered piece is some parts source is_eos) (asked none open_here h still told) =
      no_piece piece t.pieces (sym parts ∙ none)
  buffered_is_function s t u a b (ended is none at_end' same) (buffered piece is' some parts source is_eos) =
      no_piece piece u.pieces (sym parts ∙ none)
  buffered_is_function s t u a b (ended is none at_end' same) (ended is' none' at_end'' same') = (is ∙ sym is', same ∙ sym same')
  buffered_is_function s t u a b (ended is none at_end' same) (asked none' open_here h still told) = truth_apart (sym at_end' ∙ open_here)
  buffered_is_function s t u a b (asked none open_here h still told) (buffered piece is some parts source is_eos) =
      no_piece piece u.pieces (sym parts ∙ none)
  buffered_is_function s t u a b (asked none open_here h still told) (ended is none' at_end' same) = truth_apart (sym at_end' ∙ open_here)
  buffered_is_function s t u a b (asked none open_here h still told) (asked none' open_here' h' still' told') =
      let f = one s.source t.source u.source a b h h' in
      (f.0, same_buffered t u (still ∙ sym still') f.1 (told ∙ ap ends f.0 ∙ sym told'))

  pub one_frame : OneAnswer (Rounds answers)
  one_frame old new new' r r' h h' = same_rounds old old new new' r r' refl refl h h'

  pub one_piece : OneAnswer (ReadsOnce answers)
  one_piece old new new' r r' h h' = elim (same_reads old new new' r r' h h') [
    | inl m ↦ inl m
    | inr u ↦ elim u [
      | inl m ↦ inr (inl m)
      | inr v ↦ inr (inr (v.0, ap stream_part v.1, ap (λ (x : Framing S). x.payload) v.1))
    ]
  ]

-- askings one after another
pub asked_then : {S : Type 0} (answers : S → Answer → S → Type 0) (s m t : S) → Asked answers s m → Asked answers m t → Asked answers s t
asked_then answers s m t (done a b e) q = subst (λ x. Asked answers x t) e q
asked_then answers s m t (more a mid b answer h p) q = more a mid t answer h (asked_then answers mid b t p q)
