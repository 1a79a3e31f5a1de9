-- What a payload stands for, pair by pair.
use Rattle.std.proofs.Common.{◌≡◌, ℕ, ◌<◌, List, [], ◌∷◌, length, arith, ◌∙◌, ap, refl, Ok, Err, Some, None}
use Rattle.h3_proto.specs.Pairs.{pair_at, pairs_in, split_of}
use Rattle.h3_proto.specs.Settings.{received, received_all, received_then, at_rest, settings_behind, left_if, left_behind, left_of_pair, behind_id}
use Rattle.h3_proto.specs.declared.frame.SettingsError.{SettingsError}
use Rattle.h3_proto.specs.declared.frame.SettingsError.TheVariants.{Malformed}
use Rattle.h3_proto.specs.PairLaws.{no_id, split_none, split_pair}
use Rattle.h3_coding.specs.VarintLaws.{none_at_end}

pub at_end : (kept : List (ℕ × ℕ)) → settings_behind kept (split_of []) ≡ Ok kept
unfolding split_of
at_end kept = refl

some_left : (kept : List (ℕ × ℕ)) (bytes : List ℕ) → 0 < length bytes → at_rest bytes kept ≡ Err Malformed
some_left kept [] h = absurd (omega arith)
some_left kept (byte ∷ bytes) h = refl

pub is_malformed : (kept : List (ℕ × ℕ)) (bytes : List ℕ) → 0 < length bytes → pair_at bytes ≡ None → settings_behind kept (split_of bytes) ≡ Err Malformed
is_malformed kept bytes h e = ap (settings_behind kept) (split_none bytes e) ∙ some_left kept bytes h

-- the pair is judged, and the others behind it
step : (kept : List (ℕ × ℕ)) (p : ℕ × ℕ) (bytes rest : List ℕ) → pair_at bytes ≡ Some (p, rest) → settings_behind kept (split_of bytes)
    ≡ received_then (at_rest (split_of rest).rest) (received_then (λ k. received_all k (pairs_in (split_of rest))) (received kept p))
step kept p bytes rest e = ap (settings_behind kept) (split_pair p bytes rest e)

pub is_refused : (kept : List (ℕ × ℕ)) (p : ℕ × ℕ) (bytes rest : List ℕ) (e : SettingsError) → pair_at bytes ≡ Some (p, rest) → received kept p ≡ Err e → settings_behind kept (split_of bytes) ≡ Err e
is_refused kept p bytes rest e at h = step kept p bytes rest at
    ∙ ap (λ r. received_then (at_rest (split_of rest).rest) (received_then (λ k. received_all k (pairs_in (split_of rest))) r)) h

pub is_received : (kept more : List (ℕ × ℕ)) (p : ℕ × ℕ) (bytes rest : List ℕ) → pair_at bytes ≡ Some (p, rest) → received kept p ≡ Ok more → settings_behind kept (split_of bytes) ≡ settings_behind more (split_of rest)
is_received kept more p bytes rest at h = step kept p bytes rest at
    ∙ ap (λ r. received_then (at_rest (split_of rest).rest) (received_then (λ k. received_all k (pairs_in (split_of rest))) r)) h

-- the same of what is left
pub left_malformed : (kept : List (ℕ × ℕ)) (bytes : List ℕ) → pair_at bytes ≡ None → left_behind kept (split_of bytes) ≡ left_of_pair bytes
left_malformed kept bytes e = ap (left_behind kept) (split_none bytes e)

pub left_end : (kept : List (ℕ × ℕ)) → left_behind kept (split_of []) ≡ []
left_end kept = left_malformed kept [] (no_id [] none_at_end) ∙ ap (behind_id []) none_at_end

left_step : (kept : List (ℕ × ℕ)) (p : ℕ × ℕ) (bytes rest : List ℕ) → pair_at bytes ≡ Some (p, rest) → left_behind kept (split_of bytes)
    ≡ left_if (received kept p) rest (λ k. left_behind k (split_of rest))
left_step kept p bytes rest e = ap (left_behind kept) (split_pair p bytes rest e)

pub left_refused : (kept : List (ℕ × ℕ)) (p : ℕ × ℕ) (bytes rest : List ℕ) (e : SettingsError) → pair_at bytes ≡ Some (p, rest) → received kept p ≡ Err e → left_behind kept (split_of bytes) ≡ rest
left_refused kept p bytes rest e at h = left_step kept p bytes rest at ∙ ap (λ r. left_if r rest (λ k. left_behind k (split_of rest))) h

pub left_received : (kept more : List (ℕ × ℕ)) (p : ℕ × ℕ) (bytes rest : List ℕ) → pair_at bytes ≡ Some (p, rest) → received kept p ≡ Ok more → left_behind kept (split_of bytes) ≡ left_behind more (split_of rest)
left_received kept more p bytes rest at h = left_step kept p bytes rest at ∙ ap (λ r. left_if r rest (λ k. left_behind k (split_of rest))) h
