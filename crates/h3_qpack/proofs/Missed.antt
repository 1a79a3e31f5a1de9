-- A search above a number up to which there is nothing to be found.
use Rattle.std.proofs.Common.{◌≡◌, ℕ, ◌+◌, ◌≤◌, max, Bool, true, false, ◌&&◌, List, [], ◌∷◌, refl, Option, Some, None, nat_lt, nat_le, arith}
use Rattle.std.proofs.lemmas.Grind.{common_steps}
use Rattle.h3_field.specs.Field.{Field}
use Rattle.h3_table.specs.Table.{newest_from}
use Rattle.h3_table.specs.TableState.{TableState, in_range, evicted, newest_in}
use Rattle.h3_qpack.proofs.Newest.{newest_from-none}

-- two tests that agree on what a third, which finds nothing, fails
pub same_beside_none : (none test other : ℕ → Field → Bool) (first : ℕ) (fs : List Field) → newest_from none first fs ≡ None
    → ((n : ℕ) (e : Field) → first ≤ n → none n e ≡ false → test n e ≡ other n e) → newest_from test first fs ≡ newest_from other first fs
same_beside_none none test other first [] h same = refl
same_beside_none none test other first (f ∷ fs) h same =
    by_parts (newest_from none (first + 1) fs) refl (none first f) refl (λ later. same_beside_none none test other (first + 1) fs later (λ n e low fails. same n e (omega (arith, low)) fails))
  where
    by_parts : (o : Option ℕ) → newest_from none (first + 1) fs ≡ o → (b : Bool) → none first f ≡ b
        → (newest_from none (first + 1) fs ≡ None → newest_from test (first + 1) fs ≡ newest_from other (first + 1) fs)
        → newest_from test first (f ∷ fs) ≡ newest_from other first (f ∷ fs)
    by_parts (Some n) later b here behind = grind (arith, common_steps)
    by_parts None later true here behind = grind (arith, common_steps)
    by_parts None later false here behind = rw (behind later, same first f (omega arith) here) refl

-- Where nothing is found up to a number, a search above another one may begin there.
pub missed : (h : TableState) (test : Field → Bool) (after base most : ℕ) → evicted h ≤ after → newest_in h test (evicted h) base ≡ None
    → newest_in h test (max after base) most ≡ newest_in h test after most
missed h test after base most le none =
    same_beside_none (in_range test (evicted h) base) (in_range test (max after base) most) (in_range test after most) (evicted h + 1) h.entries none
    (λ n e low fails. by_test n e low (test e) refl fails)
  where
    and_false : (a b : Bool) → (a && b && false) ≡ false
    and_false true true = refl
    and_false true false = refl
    and_false false b = refl

    by_test : (n : ℕ) (e : Field) → evicted h + 1 ≤ n → (b : Bool) → test e ≡ b → (nat_lt (evicted h) n && nat_le n base && test e) ≡ false
        → (nat_lt (max after base) n && nat_le n most && test e) ≡ (nat_lt after n && nat_le n most && test e)
    by_test n e low true is fails = grind (arith, common_steps)
    by_test n e low false is fails = grind (arith, common_steps)

-- Above a number and up to one that is no greater there is nothing to be found.
pub none_between : (h : TableState) (test : Field → Bool) (above most : ℕ) → most ≤ above → newest_in h test above most ≡ None
none_between h test above most le = newest_from-none (in_range test above most) (evicted h + 1) h.entries (λ n e below. outside n (test e))
  where
    outside : (n : ℕ) (b : Bool) → (nat_lt above n && nat_le n most && b) ≡ false
    outside n b = by_order (nat_lt above n) (nat_le n most) refl refl
      where
        by_order : (c d : Bool) → nat_lt above n ≡ c → nat_le n most ≡ d → (c && d && b) ≡ false
        by_order true true e f = absurd (grind (arith, common_steps, e, f, le))
        by_order true false e f = refl
        by_order false d e f = refl

-- Nothing has the number 0.
pub none_at_zero : (h : TableState) (test : Field → Bool) → newest_in h test (evicted h) 0 ≡ None
none_at_zero h test = none_between h test (evicted h) 0 (omega arith)
