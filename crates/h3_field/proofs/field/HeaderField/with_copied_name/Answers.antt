use Rattle.std.proofs.Common.{◌≡◌, ◌++◌, ◌∷◌, ◌+◌, ◌-◌, ◌≤◌, length, take, drop, ℕ, zero, suc, List, [], refl, sym, ◌∙◌, ap, arith, append-nil, length-append}
use Rattle.std.specs.List.{copy_within}
use Rattle.h3_field.specs.Field.{Field, plain_field}
use Rattle.h3_field.proofs.field.HeaderField.with_copied_name.Goals as goal

behind : (xs ys : List ℕ) → drop (length xs) (xs ++ ys) ≡ ys
behind [] ys = refl
behind (x ∷ xs) ys = behind xs ys

front : (xs ys : List ℕ) → take (length xs) (xs ++ ys) ≡ xs
front [] ys = refl
front (x ∷ xs) ys = ap (λ (l : List ℕ). x ∷ l) (front xs ys)

some_front : (xs ys : List ℕ) → length (take (length ys) (xs ++ ys)) ≡ length ys
some_front xs ys = length-take_le (length ys) (xs ++ ys) (omega (arith, length-append xs ys))
  where
    length-take_le : (n : ℕ) (zs : List ℕ) → n ≤ length zs → length (take n zs) ≡ n
    length-take_le zero zs le = refl
    length-take_le (suc n) [] le = absurd (omega (arith, le))
    length-take_le (suc n) (z ∷ zs) le = ap suc (length-take_le n zs (omega (arith, le)))

dropped : (xs : List ℕ) → drop (length xs) xs ≡ []
dropped [] = refl
dropped (x ∷ xs) = dropped xs

nothing : (n : ℕ) (xs : List ℕ) → n ≡ length xs → drop n xs ≡ []
nothing n xs e = ap (λ k. drop k xs) e ∙ dropped xs

-- the value, moved behind the room of the name, and the name in front of it
pub moved : (value name : List ℕ) → drop (length name) (copy_within (value ++ name) 0 (length value) (length name)) ≡ value
moved value name =
    let all = value ++ name in
    let count : length value - 0 ≡ length value = omega arith in
    let end : length name + (length value - 0) ≡ length all = omega (arith, length-append value name) in
    ap (λ (l : List ℕ). drop (length name) ((take (length name) all ++ take (length value - 0) all) ++ l)) (nothing (length name + (length value - 0)) all end)
    ∙ ap (λ (l : List ℕ). drop (length name) l) (append-nil (take (length name) all ++ take (length value - 0) all))
    ∙ ap (λ n. drop (length name) (take (length name) all ++ take n all)) count
    ∙ ap (λ (l : List ℕ). drop (length name) (take (length name) all ++ l)) (front value name)
    ∙ ap (λ n. drop n (take (length name) all ++ value)) (sym (some_front value name))
    ∙ behind (take (length name) all) value

placed : (name value moved_in items rest : List ℕ) (len : ℕ) → moved_in ≡ name ++ drop (length name) items → items ≡ copy_within (value ++ name) 0 (length value) (length name) → len ≡ length value + length name
    → take len (moved_in ++ rest) ≡ name ++ value
placed name value moved_in items rest len g is all =
    let whole : moved_in ≡ name ++ value = g ∙ (λ i. name ++ drop (length name) (is i)) ∙ ap (λ (l : List ℕ). name ++ l) (moved value name) in
    let count : len ≡ length (name ++ value) = omega (arith, all, length-append name value) in
    ap (λ (l : List ℕ). take len (l ++ rest)) whole ∙ ap (λ n. take n ((name ++ value) ++ rest)) count ∙ front (name ++ value) rest

made : (name value moved_in items rest : List ℕ) (len : ℕ) (result : Field)
    → result ≡ plain_field (take (length name) (take len (moved_in ++ rest))) (drop (length name) (take len (moved_in ++ rest)))
    → moved_in ≡ name ++ drop (length name) items → items ≡ copy_within (value ++ name) 0 (length value) (length name) → len ≡ length value + length name → result ≡ plain_field name value
made name value moved_in items rest len result r g is all =
    let bytes = placed name value moved_in items rest len g is all in
    r
    ∙ (λ i. plain_field (take (length name) (bytes i)) (drop (length name) (bytes i)))
    ∙ (λ i. plain_field (front name value i) (behind name value i))

pub returns-clause-ok : goal.returns-clause-ok
returns-clause-ok c =
    let count : c.len-len.result ≡ length c.args.value.items = search in
    let joined = c.in_ok-extend_from_slice.ensures.items in
    let shifted : c.copy_within.new.self.items ≡ copy_within (c.args.value.items ++ c.args.name.now) 0 (length c.args.value.items) (length c.args.name.now) = rw (joined, count) at c.copy_within.ensures.items in
    let joined_len = c.in_ok-extend_from_slice.ensures.len in
    let all : c.copy_within.new.self.len ≡ length c.args.value.items + length c.args.name.now = omega (arith, c.copy_within.ensures.len, joined_len, count, c.len-len.ensures) in
    made c.args.name.now c.args.value.items c.set_front.new.room c.copy_within.new.self.items _ c.copy_within.new.self.len _ c.from_block.ensures (rw c.as_mut_slice.ensures.value at c.set_front.ensures) shifted all
