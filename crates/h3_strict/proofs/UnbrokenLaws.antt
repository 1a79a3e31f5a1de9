-- Parts that break no rule: fronts of them, one more, and what a receiver may test.
use Rattle.std.proofs.Common.{◌≡◌, inl, inr, ℕ, zero, suc, ◌+◌, true, false, List, [], ◌∷◌, ◌++◌, ◌≤◌, length, take, Some, refl, ap, ◌∙◌, subst, arith}
use Rattle.std.specs.Prelude.{slice_get, unwrap_or}
use Rattle.h3_messages.specs.Content.{is_exceeded, left_behind, may_end, takes_trailer}
use Rattle.h3_messages.specs.declared.content.Content.{Content}
use Rattle.h3_proto.specs.declared.stream.Side.{Side}
use Rattle.h3_connection.specs.declared.setup.Announced.{Announced}
use Rattle.h3_world.specs.Flow.{Part}
use Rattle.h3_strict.specs.Unbroken.{content_behind_part, content_along, IsUnbroken, AreUnbroken, SaysNoMore}

-- What is left of less, or of nothing known, passes no test that what was said does not pass.
pub left_no_more : (kept said : Content) (size : ℕ) → SaysNoMore kept said → SaysNoMore (left_behind kept size) (left_behind said size)
left_no_more kept said size (inl same) = inl (ap (λ c. left_behind c size) same)
left_no_more kept said size (inr (inl none)) = inr (inl (ap (λ c. left_behind c size) none))
left_no_more kept said size (inr (inr waits)) = inr (inr (ap (λ c. left_behind c size) waits.0, ap (λ c. left_behind c size) waits.1))

pub not_exceeded : (kept said : Content) → SaysNoMore kept said → is_exceeded said ≡ false → is_exceeded kept ≡ false
not_exceeded kept said (inl same) h = ap is_exceeded same ∙ h
not_exceeded kept said (inr (inl none)) h = ap is_exceeded none
not_exceeded kept said (inr (inr waits)) h = ap is_exceeded waits.0

pub ends_too : (kept said : Content) → SaysNoMore kept said → may_end said ≡ true → may_end kept ≡ true
ends_too kept said (inl same) h = ap may_end same ∙ h
ends_too kept said (inr (inl none)) h = ap may_end none
ends_too kept said (inr (inr waits)) h = ap may_end waits.0

pub trails_too : (kept said : Content) → SaysNoMore kept said → takes_trailer said ≡ true → takes_trailer kept ≡ true
trails_too kept said (inl same) h = ap takes_trailer same ∙ h
trails_too kept said (inr (inl none)) h = ap takes_trailer none
trails_too kept said (inr (inr waits)) h = ap takes_trailer waits.0

-- The content behind one part more.
pub along_more : (reader : Side) (awaited : Content) (parts : List Part) (part : Part) → content_along reader awaited (parts ++ part ∷ []) ≡ content_behind_part reader (content_along reader awaited parts) part
along_more reader awaited [] part = refl
along_more reader awaited (q ∷ qs) part = along_more reader (content_behind_part reader awaited q) qs part

same_part : (x y : Part) → Some x ≡ Some y → x ≡ y
same_part x y e = ap (λ o. unwrap_or o x) e

-- the part that is next, where so many are out
pub along_next : (reader : Side) (awaited : Content) (parts : List Part) (out : ℕ) (part : Part) → slice_get parts out ≡ Some part
    → content_along reader awaited (take (out + 1) parts) ≡ content_behind_part reader (content_along reader awaited (take out parts)) part
along_next reader awaited [] out part next = cc
along_next reader awaited (q ∷ qs) zero part next = ap (content_behind_part reader awaited) (same_part q part next)
along_next reader awaited (q ∷ qs) (suc out) part next =
    let one : suc out + 1 ≡ suc (out + 1) = omega arith in
    ap (λ n. content_along reader awaited (take n (q ∷ qs))) one ∙ along_next reader (content_behind_part reader awaited q) qs out part next

pub unbroken_next : (reader : Side) (own : Announced) (awaited : Content) (parts : List Part) (out : ℕ) (part : Part) → AreUnbroken reader own awaited parts → slice_get parts out ≡ Some part
    → IsUnbroken reader own (content_along reader awaited (take out parts)) part
unbroken_next reader own awaited [] out part h next = cc
unbroken_next reader own awaited (q ∷ qs) zero part h next = subst (IsUnbroken reader own awaited) (same_part q part next) h.0
unbroken_next reader own awaited (q ∷ qs) (suc out) part h next = unbroken_next reader own (content_behind_part reader awaited q) qs out part h.1 next

-- One part more that breaks none.
pub unbroken_more : (reader : Side) (own : Announced) (awaited : Content) (parts : List Part) (part : Part) → AreUnbroken reader own awaited parts → IsUnbroken reader own (content_along reader awaited parts) part
    → AreUnbroken reader own awaited (parts ++ part ∷ [])
unbroken_more reader own awaited [] part h more = (more, tt)
unbroken_more reader own awaited (q ∷ qs) part h more = (h.0, unbroken_more reader own (content_behind_part reader awaited q) qs part h.1 more)

-- a part that is next is there
pub next_within : (parts : List Part) (out : ℕ) (part : Part) → slice_get parts out ≡ Some part → out + 1 ≤ length parts
next_within [] out part next = cc
next_within (q ∷ qs) zero part next = omega arith
next_within (q ∷ qs) (suc out) part next = omega (arith, next_within qs out part next)
