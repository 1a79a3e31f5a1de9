-- Counts of sections that wait.
use Rattle.std.proofs.Common.{◌≡◌, ◌<◌, ◌≤◌, ℕ, zero, suc, ◌+◌, ◌-◌, Bool, true, false, List, [], ◌∷◌, ◌++◌, length, drop, filter, refl, sym, ◌∙◌, ap, arith, nat_lt, if◌then◌else◌, get_or, set, add-one}
use Rattle.std.specs.Prelude.{◌==◌, sum}
use Rattle.std.specs.List.{list_any, AllByRecursion}
use Rattle.std.proofs.lemmas.Grind.{common_steps}
use Rattle.std.proofs.lemmas.List.{set-get_or, get_or-set_same, length-set}
use Rattle.std.proofs.lemmas.List.Sums.{sum_by-cons}
use Rattle.h3_table.specs.Tracking.{without_newest}
use Rattle.h3_table.specs.InOrder.{put_last}
use Rattle.h3_table.specs.Blocking.{repeated, counts_from}
use Rattle.h3_table.specs.ReleasingLaws.{none_newest}
use Rattle.h3_table.proofs.Releases.{other_stays}
use Rattle.h3_table.proofs.PutLast.{last_stays}

All-repeated : (P : ℕ → Type 0) (times n : ℕ) (rest : List ℕ) → P n → AllByRecursion P rest → AllByRecursion P (repeated times n rest)
All-repeated P zero n rest p h = h
All-repeated P (suc times) n rest p h = (p, All-repeated P times n rest p h)

-- the counts are from the first number on
pub counts_above : (below n : ℕ) (ws : List ℕ) → below < n → AllByRecursion (λ c. below < c) (counts_from n ws)
counts_above below n [] lt = tt
counts_above below n (w ∷ ws) lt = All-repeated (λ c. below < c) w n (counts_from (n + 1) ws) lt (counts_above below (n + 1) ws (omega (arith, lt)))

length-repeated : (times n : ℕ) (rest : List ℕ) → length (repeated times n rest) ≡ times + length rest
length-repeated zero n rest = omega arith
length-repeated (suc times) n rest = omega (arith, length-repeated times n rest)

-- how many there are
pub counted : (n : ℕ) (ws : List ℕ) → length (counts_from n ws) ≡ sum ws
counted n [] = refl
counted n (w ∷ ws) = omega (arith, length-repeated w n (counts_from (n + 1) ws), counted (n + 1) ws, sum_by-cons (λ (x : ℕ). x) w ws)

-- a 0 behind the last changes nothing
pub zero_behind : (n : ℕ) (ws : List ℕ) → counts_from n (ws ++ 0 ∷ []) ≡ counts_from n ws
zero_behind n [] = refl
zero_behind n (w ∷ ws) = ap (repeated w n) (zero_behind (n + 1) ws)

own_first : (times n : ℕ) (rest : List ℕ) → repeated times n (n ∷ rest) ≡ repeated (suc times) n rest
own_first zero n rest = refl
own_first (suc times) n rest = ap (λ cs. n ∷ cs) (own_first times n rest)

put_behind : (times n c : ℕ) (rest : List ℕ) → n ≤ c → put_last (λ m. m) c (repeated times n rest) ≡ repeated times n (put_last (λ m. m) c rest)
put_behind zero n c rest le = refl
put_behind (suc times) n c rest le = let far : nat_lt c n ≡ false = grind (arith, common_steps) in rw far (ap (λ cs. n ∷ cs) (put_behind times n c rest le))

-- a count more
pub count_added : (place n : ℕ) (ws : List ℕ) (d : ℕ) → place < length ws → counts_from n (set ws place (get_or ws place d + 1)) ≡ put_last (λ m. m) (n + place) (counts_from n ws)
count_added place n [] d lt = absurd (omega (arith, lt))
count_added zero n (w ∷ ws) d lt =
    let here : n + 0 ≡ n = omega arith in
    let rest = counts_from (n + 1) ws in
    rw (here, add-one) (sym (put_behind w n n rest (omega arith) ∙ ap (repeated w n) (last_stays (λ m. m) n rest (counts_above n (n + 1) ws (omega arith))) ∙ own_first w n rest))
count_added (suc place) n (w ∷ ws) d lt =
    let same : n + 1 + place ≡ n + suc place = omega arith in
    ap (repeated w n) (count_added place (n + 1) ws d (omega (arith, lt)) ∙ ap (λ c. put_last (λ m. m) c (counts_from (n + 1) ws)) same)
    ∙ sym (put_behind w n (n + suc place) (counts_from (n + 1) ws) (omega arith))

others_stay : (times n c : ℕ) (rest : List ℕ) → (n == c) ≡ false → without_newest (λ m. m == c) (repeated times n rest) ≡ repeated times n (without_newest (λ m. m == c) rest)
others_stay zero n c rest other = refl
others_stay (suc times) n c rest other = other_stays (λ m. m == c) n (repeated times n rest) other ∙ ap (λ cs. n ∷ cs) (others_stay times n c rest other)

itself : (n : ℕ) → (n == n) ≡ true
itself n = grind (arith, common_steps)

own_there : (times n : ℕ) (rest : List ℕ) → list_any (λ m. m == n) (repeated (suc times) n rest) ≡ true
own_there times n rest = rw (itself n) refl

before : (test : ℕ → Bool) (c : ℕ) (cs : List ℕ) → list_any test cs ≡ true → without_newest test (c ∷ cs) ≡ c ∷ without_newest test cs
before test c cs e = rw e refl

own_goes : (times n : ℕ) (rest : List ℕ) → list_any (λ m. m == n) rest ≡ false → without_newest (λ m. m == n) (repeated (suc times) n rest) ≡ repeated times n rest
own_goes zero n rest none = rw (none, itself n) refl
own_goes (suc times) n rest none = before (λ m. m == n) n (repeated (suc times) n rest) (own_there times n rest) ∙ ap (λ cs. n ∷ cs) (own_goes times n rest none)

-- none of greater numbers is one
pub none_above : (c : ℕ) (cs : List ℕ) → AllByRecursion (λ m. c < m) cs → list_any (λ m. m == c) cs ≡ false
none_above c [] h = refl
none_above c (m ∷ cs) h = let other : (m == c) ≡ false = grind (arith, common_steps, h.0) in rw other (none_above c cs h.1)

unlike : (n c : ℕ) → n < c → (n == c) ≡ false
unlike n c lt = grind (arith, common_steps)

-- a count less
pub count_removed : (place n : ℕ) (ws : List ℕ) (v d : ℕ) → place < length ws → get_or ws place d ≡ v + 1 → without_newest (λ m. m == n + place) (counts_from n ws) ≡ counts_from n (set ws place v)
count_removed place n [] v d lt is = absurd (omega (arith, lt))
count_removed zero n (w ∷ ws) v d lt is =
    let here : n + 0 ≡ n = omega arith in
    let more : w ≡ suc v = omega (arith, is) in
    let rest = counts_from (n + 1) ws in
    rw (here, more) (own_goes v n rest (none_above n rest (counts_above n (n + 1) ws (omega arith))))
count_removed (suc place) n (w ∷ ws) v d lt is =
    let same : n + 1 + place ≡ n + suc place = omega arith in
    others_stay w n (n + suc place) (counts_from (n + 1) ws) (unlike n (n + suc place) (omega arith))
    ∙ ap (λ c. repeated w n (without_newest (λ m. m == c) (counts_from (n + 1) ws))) (sym same)
    ∙ ap (repeated w n) (count_removed place (n + 1) ws v d (omega (arith, lt)) is)

any_behind : (times n c : ℕ) (rest : List ℕ) → (n == c) ≡ false → list_any (λ m. m == c) (repeated times n rest) ≡ list_any (λ m. m == c) rest
any_behind zero n c rest other = refl
any_behind (suc times) n c rest other = rw other (any_behind times n c rest other)

-- no section has a count whose number is 0, or that is behind the last
pub none_counted : (place n : ℕ) (ws : List ℕ) → get_or ws place 0 ≡ 0 → list_any (λ m. m == n + place) (counts_from n ws) ≡ false
none_counted place n [] is = refl
none_counted zero n (w ∷ ws) is =
    let here : n + 0 ≡ n = omega arith in
    let none : w ≡ 0 = is in
    let rest = counts_from (n + 1) ws in
    rw (here, none) (none_above n rest (counts_above n (n + 1) ws (omega arith)))
none_counted (suc place) n (w ∷ ws) is =
    let same : n + 1 + place ≡ n + suc place = omega arith in
    any_behind w n (n + suc place) (counts_from (n + 1) ws) (unlike n (n + suc place) (omega arith))
    ∙ ap (λ c. list_any (λ m. m == c) (counts_from (n + 1) ws)) (sym same) ∙ none_counted place (n + 1) ws is

filter_passed : (known times n : ℕ) (rest : List ℕ) → n ≤ known → filter (λ c. nat_lt known c) (repeated times n rest) ≡ filter (λ c. nat_lt known c) rest
filter_passed known zero n rest le = refl
filter_passed known (suc times) n rest le = let far : nat_lt known n ≡ false = grind (arith, common_steps) in rw far (filter_passed known times n rest le)

filter_all : (known : ℕ) (cs : List ℕ) → AllByRecursion (λ c. known < c) cs → cs ≡ filter (λ c. nat_lt known c) cs
filter_all known [] h = refl
filter_all known (c ∷ cs) h = let near : nat_lt known c ≡ true = grind (arith, common_steps, h.0) in rw near (ap (λ ds. c ∷ ds) (filter_all known cs h.1))

-- the counts above what is known, once so many more insertions are
pub counts_dropped : (k n : ℕ) (ws : List ℕ) → counts_from (n + k + 1) (drop k ws) ≡ filter (λ c. nat_lt (n + k) c) (counts_from (n + 1) ws)
counts_dropped zero n ws = let here : n + 0 ≡ n = omega arith in rw here (filter_all n (counts_from (n + 1) ws) (counts_above n (n + 1) ws (omega arith)))
counts_dropped (suc k) n [] = refl
counts_dropped (suc k) n (w ∷ ws) =
    let same : n + 1 + k ≡ n + suc k = omega arith in
    ap (λ m. counts_from (m + 1) (drop k ws)) (sym same) ∙ counts_dropped k (n + 1) ws ∙ ap (λ m. filter (λ c. nat_lt m c) (counts_from (n + 1 + 1) ws)) same
    ∙ sym (filter_passed (n + suc k) w (n + 1) (counts_from (n + 1 + 1) ws) (omega arith))

set_again : (ws : List ℕ) (i a b : ℕ) → set (set ws i a) i b ≡ set ws i b
set_again [] i a b = refl
set_again (w ∷ ws) zero a b = refl
set_again (w ∷ ws) (suc i) a b = ap (λ vs. w ∷ vs) (set_again ws i a b)

-- a count that was added is taken away again
pub count_undone : (place n : ℕ) (ws : List ℕ) (d : ℕ) → place < length ws → without_newest (λ m. m == n + place) (counts_from n (set ws place (get_or ws place d + 1))) ≡ counts_from n ws
count_undone place n ws d lt =
    count_removed place n (set ws place (get_or ws place d + 1)) (get_or ws place d) d (omega (arith, lt, length-set ws place (get_or ws place d + 1))) (get_or-set_same ws place (get_or ws place d + 1) d lt)
    ∙ ap (counts_from n) (set_again ws place (get_or ws place d + 1) (get_or ws place d) ∙ set-get_or ws place d)

place_is : (known count : ℕ) → known < count → known + 1 + (count - known - 1) ≡ count
place_is known count lt = omega (arith, lt)

-- a section more at its place
pub added : (known count : ℕ) (old ws : List ℕ) (v : ℕ) → known < count → count - known - 1 < length ws → v ≡ get_or ws (count - known - 1) v → counts_from (known + 1) ws ≡ counts_from (known + 1) old
    → counts_from (known + 1) (set ws (count - known - 1) (v + 1)) ≡ (if nat_lt known count then put_last (λ m. m) count (counts_from (known + 1) old) else counts_from (known + 1) old)
added known count old ws v lt inside is same =
    let waits : nat_lt known count ≡ true = grind (arith, common_steps) in
    rw waits (ap (λ w. counts_from (known + 1) (set ws (count - known - 1) (w + 1))) is ∙ count_added (count - known - 1) (known + 1) ws v inside
    ∙ ap (λ c. put_last (λ m. m) c (counts_from (known + 1) ws)) (place_is known count lt) ∙ ap (put_last (λ m. m) count) same)

-- and taken away again
pub undone : (known count : ℕ) (old ws : List ℕ) (v : ℕ) → known < count → count - known - 1 < length ws → v ≡ get_or ws (count - known - 1) v → counts_from (known + 1) ws ≡ counts_from (known + 1) old
    → without_newest (λ m. m == count) (counts_from (known + 1) (set ws (count - known - 1) (v + 1))) ≡ counts_from (known + 1) old
undone known count old ws v lt inside is same =
    ap (λ w. without_newest (λ m. m == count) (counts_from (known + 1) (set ws (count - known - 1) (w + 1)))) is
    ∙ ap (λ c. without_newest (λ m. m == c) (counts_from (known + 1) (set ws (count - known - 1) (get_or ws (count - known - 1) v + 1)))) (sym (place_is known count lt))
    ∙ count_undone (count - known - 1) (known + 1) ws v inside ∙ same

-- a section that does not wait is no count
pub none_waits : (known count : ℕ) (ws : List ℕ) → count ≤ known → without_newest (λ m. m == count) (counts_from (known + 1) ws) ≡ counts_from (known + 1) ws
none_waits known count ws le = none_newest (λ m. m == count) (counts_from (known + 1) ws) (none_above count _ (counts_above count (known + 1) ws (omega (arith, le))))

past : (ws : List ℕ) (place : ℕ) → length ws ≤ place → get_or ws place 0 ≡ 0
past [] place le = refl
past (w ∷ ws) zero le = absurd (omega (arith, le))
past (w ∷ ws) (suc place) le = past ws place (omega (arith, le))

-- a place without a section, or behind the last
pub none_there : (known count : ℕ) (ws : List ℕ) → known < count → get_or ws (count - known - 1) 0 ≡ 0 → counts_from (known + 1) ws ≡ without_newest (λ m. m == count) (counts_from (known + 1) ws)
none_there known count ws lt is =
    sym (none_newest (λ m. m == count) (counts_from (known + 1) ws)
    (ap (λ c. list_any (λ m. m == c) (counts_from (known + 1) ws)) (sym (place_is known count lt)) ∙ none_counted (count - known - 1) (known + 1) ws is))

pub none_past : (known count : ℕ) (ws : List ℕ) → known < count → length ws ≤ count - known - 1 → counts_from (known + 1) ws ≡ without_newest (λ m. m == count) (counts_from (known + 1) ws)
none_past known count ws lt le = none_there known count ws lt (past ws (count - known - 1) le)

pub none_at : (known count : ℕ) (ws : List ℕ) (v : ℕ) → known < count → v ≡ get_or ws (count - known - 1) v → v ≡ 0 → counts_from (known + 1) ws ≡ without_newest (λ m. m == count) (counts_from (known + 1) ws)
none_at known count ws v lt at is = none_there known count ws lt (ap (λ d. get_or ws (count - known - 1) d) (sym is) ∙ sym at ∙ is)

-- whatever stands for a number that is not there
pub default_free : (ws : List ℕ) (place d e : ℕ) → place < length ws → get_or ws place d ≡ get_or ws place e
default_free [] place d e lt = absurd (omega (arith, lt))
default_free (w ∷ ws) zero d e lt = refl
default_free (w ∷ ws) (suc place) d e lt = default_free ws place d e (omega (arith, lt))

-- a section less
pub removed : (known count : ℕ) (ws : List ℕ) (v : ℕ) → known < count → count - known - 1 < length ws → v ≡ get_or ws (count - known - 1) v → 0 < v
    → counts_from (known + 1) (set ws (count - known - 1) (v - 1)) ≡ without_newest (λ m. m == count) (counts_from (known + 1) ws)
removed known count ws v lt inside is above =
    sym (ap (λ c. without_newest (λ m. m == c) (counts_from (known + 1) ws)) (sym (place_is known count lt))
    ∙ count_removed (count - known - 1) (known + 1) ws (v - 1) v inside (omega (arith, is, above)))

-- what is left once more is known
pub raised : (known later : ℕ) (ws left : List ℕ) → known ≤ later → left ≡ drop (later - known) ws → counts_from (later + 1) left ≡ filter (λ c. nat_lt later c) (counts_from (known + 1) ws)
raised known later ws left le is =
    let same : known + (later - known) ≡ later = omega (arith, le) in
    ap (counts_from (later + 1)) is ∙ ap (λ n. counts_from (n + 1) (drop (later - known) ws)) (sym same) ∙ counts_dropped (later - known) known ws
    ∙ ap (λ n. filter (λ c. nat_lt n c) (counts_from (known + 1) ws)) same
