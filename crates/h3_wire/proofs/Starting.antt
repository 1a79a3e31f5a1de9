-- What `poll_type` answers and leaves rests on its own buffer and source alone.
use Rattle.std.proofs.Common.{◌≡◌, ◌⊎◌, inl, inr, ℕ, true, false, length, refl, sym, ◌∙◌, ap, subst, Result, Err, Option, Some, None}
use Rattle.std.specs.List.{concat}
use Rattle.h3_wire.specs.declared.quic.Poll.{Poll}
use Rattle.h3_wire.specs.declared.quic.Poll.TheVariants.{Ready}
use Rattle.h3_wire.specs.declared.stream.Received.{Received}
use Rattle.h3_frames.specs.declared.frame.errors.FrameStreamError.{FrameStreamError}
use Rattle.h3_frames.specs.declared.frame.errors.FrameStreamError.TheVariants as stream
use Rattle.h3_wire.specs.declared.stream.accept.PollTypeError.{PollTypeError}
use Rattle.h3_wire.specs.declared.stream.accept.PollTypeError.TheVariants as failed
use Rattle.h3_wire.specs.Source.{Answer}
use Rattle.h3_frames.specs.Pieces.{ending}
use Rattle.h3_wire.specs.Streams.{Buffered}
use Rattle.h3_wire.specs.Accepting.{Accepting, stream_of, resolved}
use Rattle.h3_wire.specs.Asking.{Asks}
use Rattle.h3_wire.specs.OneAnswer.{IsFunction, IsStartMemory, OneStart}
use Rattle.h3_wire.specs.Starting.{Starts, StartRounds, starts, stops, reads_on, behind_type_read, id_read, behind_id_read, type_answer}
use Rattle.h3_wire.proofs.Asking.{same_asks, same_buffered}

same_accepting : {S : Type 0} (a b : Accepting S) → stream_of a ≡ stream_of b → a.kind ≡ b.kind → a.id ≡ b.id → a ≡ b
same_accepting {S} a b stream kind id =
    ap (λ (x : Buffered S). record a { pieces = x.pieces; source = x.source; is_eos = x.is_eos }) stream
    ∙ ap (λ (x : Option ℕ). record b { kind = x; id = a.id }) kind
    ∙ ap (λ (x : Option ℕ). record b { id = x }) id

-- what was read of type and id is taken in one way
same_starts : {S : Type 0} (old old' new new' : Accepting S) → old ≡ old' → Starts old new → Starts old' new' → new ≡ new'
same_starts {S} old old' new new' same s h =
    let t = subst (λ o. Starts o new') (sym same) h in
    let kind = s.kind ∙ sym t.kind in
    let id = s.id ∙ ap (λ k. id_read k old.id (behind_type_read old.kind (concat old.pieces))) kind ∙ sym t.id in
    let bytes = s.buffered ∙ ap (λ k. behind_id_read k old.id (behind_type_read old.kind (concat old.pieces))) kind ∙ sym t.buffered in
    let pieces = s.pieces ∙ ap (λ l. ending (length l) old.pieces) bytes ∙ sym t.pieces in
    same_accepting new new' (same_buffered (stream_of new) (stream_of new') pieces (s.source ∙ sym t.source) (s.is_eos ∙ sym t.is_eos)) kind id

truth_apart : {A : Type 0} → true ≡ false → A
truth_apart e = absurd (cc)

some_same : {A : Type 0} (v w : A) (a b : Option A) → a ≡ Some v → b ≡ Some w → a ≡ b → v ≡ w
some_same v w a b p q r = cc

some_apart : {A B : Type 0} (v : A) (a b : Option A) → a ≡ Some v → b ≡ None → a ≡ b → B
some_apart v a b p q r = absurd (cc)

memory_answer : (told : Result Received FrameStreamError) (answer : Poll (Result (Unit {0}) PollTypeError)) → told ≡ Err stream.OutOfMemory → type_answer told ≡ Some answer → IsStartMemory answer
memory_answer told answer m e = sym (some_same (Ready (Err failed.OutOfMemory)) answer (type_answer (Err stream.OutOfMemory)) (type_answer told) refl e (ap type_answer (sym m)))

memory_ends : {A : Type 0} (told : Result Received FrameStreamError) → told ≡ Err stream.OutOfMemory → type_answer told ≡ None → A
memory_ends told m e = some_apart (Ready (Err failed.OutOfMemory)) (type_answer (Err stream.OutOfMemory)) (type_answer told) refl e (ap type_answer (sym m))

module _ {S : Type 0} (answers : S → Answer → S → Type 0) (one : IsFunction answers) where
  asked_same : (mid mid' new new' : Accepting S) (told told' : Result Received FrameStreamError) → mid ≡ mid' → Asks answers (stream_of mid) told (stream_of new) → Asks answers (stream_of mid') told' (stream_of new')
      → new.kind ≡ mid.kind → new.id ≡ mid.id → new'.kind ≡ mid'.kind → new'.id ≡ mid'.id
      → (told ≡ Err stream.OutOfMemory) ⊎ ((told' ≡ Err stream.OutOfMemory) ⊎ ((told ≡ told') × (new ≡ new')))
  asked_same mid mid' new new' told told' same a a' k i k' i' =
      elim (same_asks answers one (stream_of mid) (stream_of new) (stream_of new') told told' a (subst (λ (m : Accepting S). Asks answers (stream_of m) told' (stream_of new')) (sym same) a')) [
        | inl m ↦ inl m
        | inr u ↦ elim u [
          | inl m ↦ inr (inl m)
          | inr v ↦ inr (inr (v.0, same_accepting new new' v.1 (k ∙ ap (λ (m : Accepting S). m.kind) same ∙ sym k') (i ∙ ap (λ (m : Accepting S). m.id) same ∙ sym i')))
        ]
      ]

  apart : {A : Type 0} (mid mid' : Accepting S) → mid ≡ mid' → resolved mid.kind mid.id ≡ true → resolved mid'.kind mid'.id ≡ false → A
  apart mid mid' same t f = truth_apart (sym t ∙ ap (λ (m : Accepting S). resolved m.kind m.id) same ∙ f)

  same_start_rounds : (old old' new new' : Accepting S) (r r' : Poll (Result (Unit {0}) PollTypeError)) → old ≡ old' → StartRounds answers old r new → StartRounds answers old' r' new' → IsStartMemory r ⊎ (IsStartMemory r' ⊎ ((r ≡ r') × (new ≡ new')))
  same_start_rounds old old' new new' r r' same (starts a b s t) (starts a' b' s' t') = inr (inr (refl, same_starts a a' b b' same s s'))
  same_start_rounds old old' new new' r r' same (starts a b s t) (stops a' m' b' told' answer' s' f' x' k' i' e') = apart b m' (same_starts a a' b m' same s s') t f'
  same_start_rounds old old' new new' r r' same (starts a b s t) (reads_on a' m' n' b' told' answer' s' f' x' k' i' e' h') = apart b m' (same_starts a a' b m' same s s') t f'
  same_start_rounds old old' new new' r r' same (stops a m b told answer s f x k i e) (starts a' b' s' t') = apart b' m (same_starts a' a b' m (sym same) s' s) t' f
  same_start_rounds old old' new new' r r' same (stops a m b told answer s f x k i e) (stops a' m' b' told' answer' s' f' x' k' i' e') =
      elim (asked_same m m' b b' told told' (same_starts a a' m m' same s s') x x' k i k' i') [
        | inl n ↦ inl (memory_answer told answer n e)
        | inr u ↦ elim u [
          | inl n ↦ inr (inl (memory_answer told' answer' n e'))
          | inr v ↦ inr (inr (some_same answer answer' _ _ e e' (ap type_answer v.0), v.1))
        ]
      ]
  same_start_rounds old old' new new' r r' same (stops a m b told answer s f x k i e) (reads_on a' m' n' b' told' answer' s' f' x' k' i' e' h') =
      elim (asked_same m m' b n' told told' (same_starts a a' m m' same s s') x x' k i k' i') [
        | inl n ↦ inl (memory_answer told answer n e)
        | inr u ↦ elim u [
          | inl n ↦ memory_ends told' n e'
          | inr v ↦ some_apart answer _ _ e e' (ap type_answer v.0)
        ]
      ]
  same_start_rounds old old' new new' r r' same (reads_on a m c b told answer s f x k i e h) (starts a' b' s' t') = apart b' m (same_starts a' a b' m (sym same) s' s) t' f
  same_start_rounds old old' new new' r r' same (reads_on a m c b told answer s f x k i e h) (stops a' m' b' told' answer' s' f' x' k' i' e') =
      elim (asked_same m m' c b' told told' (same_starts a a' m m' same s s') x x' k i k' i') [
        | inl n ↦ memory_ends told n e
        | inr u ↦ elim u [
          | inl n ↦ inr (inl (memory_answer told' answer' n e'))
          | inr v ↦ some_apart answer' _ _ e' e (sym (ap type_answer v.0))
        ]
      ]
  same_start_rounds old old' new new' r r' same (reads_on a m c b told answer s f x k i e h) (reads_on a' m' c' b' told' answer' s' f' x' k' i' e' h') =
      elim (asked_same m m' c c' told told' (same_starts a a' m m' same s s') x x' k i k' i') [
        | inl n ↦ memory_ends told n e
        | inr u ↦ elim u [
          | inl n ↦ memory_ends told' n e'
          | inr v ↦ same_start_rounds c c' b b' answer answer' v.1 h h'
        ]
      ]

  pub one_start : OneStart (StartRounds answers)
  one_start old new new' r r' h h' = same_start_rounds old old new new' r r' refl h h'
