-- Sections by their streams, in a map.
use Rattle.std.proofs.Common.{◌≡◌, ◌≢◌, ◌<◌, ℕ, ◌+◌, Bool, true, false, List, [], ◌∷◌, ◌++◌, length, cond, refl, sym, ◌∙◌, ap, subst, arith, length-append}
use Rattle.std.specs.Prelude.{◌==◌, Option, Some, None}
use Rattle.std.specs.List.{AllByRecursion}
use Rattle.std.specs.List.Sorted.{IsStrictlySortedBy}
use Rattle.std.specs.Option.{unwrap_or}
use Rattle.std.specs.Ordering.{nat_cmp, is_eq, MatchOrdering}
use Rattle.std.specs.declared.cmp.Ordering.{Ordering}
use Rattle.std.specs.declared.cmp.Ordering.TheVariants.{Less, Equal, Greater}
use Rattle.std.specs.BTreeMap.{is_at}
use Rattle.std.specs.Map.{keys_of, lookup}
use Rattle.std.proofs.lemmas.Grind.{common_steps}
use Rattle.std.proofs.lemmas.Cmp.{ranked}
use Rattle.std.proofs.lemmas.List.{map-append, append-nil}
use Rattle.std.proofs.lemmas.Map.Keys.{sorted_tail, sorted_head}
use Rattle.h3_table.specs.declared.tracking.NamedEntries.{NamedEntries}
use Rattle.h3_table.specs.declared.tracking.TrackedSection.{TrackedSection}
use Rattle.h3_table.specs.Sections.{sections_on, sections_of, IsChanged, IsWithoutOne}
use Rattle.h3_table.specs.ByStream.{of_stream, HasOneMore, IsFirstTaken, IsLastTaken}
use Rattle.h3_table.proofs.ByStream.{itself, unlike, alike, of_none, of_both}

-- each stream is below those behind it
abbrev pub Climbs : List (ℕ × List NamedEntries) → Type 0
Climbs [] = Unit {0}
Climbs (e ∷ es) = AllByRecursion (λ o. e.0 < o.0) es × Climbs es

pub climbs : (es : List (ℕ × List NamedEntries)) → IsStrictlySortedBy nat_cmp (keys_of es) → Climbs es
climbs [] h = tt
climbs (e ∷ es) h = (each es (sorted_head nat_cmp e.0 (keys_of es) h), climbs es (sorted_tail nat_cmp e.0 (keys_of es) h))
  where
    below : (k : ℕ) → nat_cmp e.0 k ≡ Less → e.0 < k
    below k is = subst (λ o. MatchOrdering o (e.0 < k) (e.0 ≡ k) (k < e.0)) is (ranked e.0 k (nat_cmp e.0 k) refl)

    each : (os : List (ℕ × List NamedEntries)) → AllByRecursion (λ k. nat_cmp e.0 k ≡ Less) (keys_of os) → AllByRecursion (λ o. e.0 < o.0) os
    each [] k = tt
    each (o ∷ os) k = (below o.0 k.0, each os k.1)

abbrev section : ℕ → NamedEntries → TrackedSection
section stream n = record { stream = stream; oldest = n.oldest; newest = n.newest }

-- what holds of each section of a stream
All-on : (P : TrackedSection → Type 0) (stream : ℕ) → ((n : NamedEntries) → P (section stream n)) → (ns : List NamedEntries) → AllByRecursion P (sections_on stream ns)
All-on P stream p [] = tt
All-on P stream p (n ∷ ns) = (p n, All-on P stream p ns)

All-both : (P : TrackedSection → Type 0) (ts us : List TrackedSection) → AllByRecursion P ts → AllByRecursion P us → AllByRecursion P (ts ++ us)
All-both P [] us h k = k
All-both P (t ∷ ts) us h k = (h.0, All-both P ts us h.1 k)

-- the sections of greater streams
above : (stream : ℕ) (es : List (ℕ × List NamedEntries)) → AllByRecursion (λ o. stream < o.0) es → AllByRecursion (λ t. stream < t.stream) (sections_of es)
above stream [] h = tt
above stream (e ∷ es) h = All-both (λ t. stream < t.stream) (sections_on e.0 e.1) (sections_of es) (All-on (λ t. stream < t.stream) e.0 (λ n. h.0) e.1) (above stream es h.1)

others : (stream : ℕ) (ts : List TrackedSection) → AllByRecursion (λ t. stream < t.stream) ts → AllByRecursion (λ t. t.stream ≢ stream) ts
others stream [] h = tt
others stream (t ∷ ts) h = ((λ e. omega (arith, e, h.0)), others stream ts h.1)

pub of_map : (k : ℕ) (es : List (ℕ × List NamedEntries)) → Climbs es → of_stream k (sections_of es) ≡ sections_on k (unwrap_or (lookup (is_at (nat_cmp k)) es) [])
of_map k [] up = refl
of_map k (e ∷ es) up = of_both k (sections_on e.0 e.1) (sections_of es) ∙ by_order (nat_cmp k e.0) (ranked k e.0 (nat_cmp k e.0) refl) (of_map k es up.1)
  where
    other : e.0 ≢ k → of_stream k (sections_of es) ≡ sections_on k (unwrap_or (lookup (is_at (nat_cmp k)) es) []) → of_stream k (sections_on e.0 e.1) ++ of_stream k (sections_of es) ≡ sections_on k (unwrap_or (lookup (is_at (nat_cmp k)) es) [])
    other ne h = rw (of_none k (sections_on e.0 e.1) (All-on (λ t. t.stream ≢ k) e.0 (λ m. ne) e.1)) h

    own : (ns : List NamedEntries) → of_stream k (sections_on k ns) ≡ sections_on k ns
    own [] = refl
    own (n ∷ ns) = rw (itself k) (ap (λ ts. section k n ∷ ts) (own ns))

    by_order : (o : Ordering) → MatchOrdering o (k < e.0) (k ≡ e.0) (e.0 < k) → of_stream k (sections_of es) ≡ sections_on k (unwrap_or (lookup (is_at (nat_cmp k)) es) [])
        → of_stream k (sections_on e.0 e.1) ++ of_stream k (sections_of es) ≡ sections_on k (unwrap_or (cond (is_eq o) (Some e.1) (lookup (is_at (nat_cmp k)) es)) [])
    by_order Less lt h = other (λ s. omega (arith, s, lt)) h
    by_order Equal same h =
        let rest : of_stream k (sections_of es) ≡ [] = of_none k (sections_of es) (others k (sections_of es) (above k es (subst (λ m. AllByRecursion (λ (o : ℕ × List NamedEntries). m < o.0) es) (sym same) up.0))) in
        rw rest (append-nil (of_stream k (sections_on e.0 e.1)) ∙ ap (λ m. of_stream k (sections_on m e.1)) (sym same) ∙ own e.1)
    by_order Greater gt h = other (λ s. omega (arith, s, gt)) h

at_own : (stream : ℕ) (es : List (ℕ × List NamedEntries)) (found : Option (List NamedEntries)) → IsStrictlySortedBy nat_cmp (keys_of es) → lookup (is_at (nat_cmp stream)) es ≡ found → of_stream stream (sections_of es) ≡ sections_on stream (unwrap_or found [])
at_own stream es found up is = of_map stream es (climbs es up) ∙ ap (λ o. sections_on stream (unwrap_or o [])) is

others_kept : (stream : ℕ) (before after : List (ℕ × List NamedEntries)) (now : Option (List NamedEntries)) → IsStrictlySortedBy nat_cmp (keys_of before) → IsChanged stream before after now → (other : ℕ) → other ≢ stream → of_stream other (sections_of after) ≡ of_stream other (sections_of before)
others_kept stream before after now up h other ne =
    of_map other after (climbs after h.ordered) ∙ ap (λ o. sections_on other (unwrap_or o [])) (h.others other (apart (nat_cmp stream other) (ranked stream other (nat_cmp stream other) refl))) ∙ sym (of_map other before (climbs before up))
  where
    apart : (o : Ordering) → MatchOrdering o (stream < other) (stream ≡ other) (other < stream) → is_eq o ≡ false
    apart Less lt = refl
    apart Equal same = absurd (ne (sym same))
    apart Greater gt = refl

-- one more of a stream
pub one_more : (stream : ℕ) (n : NamedEntries) (before after : List (ℕ × List NamedEntries)) (found : Option (List NamedEntries)) → lookup (is_at (nat_cmp stream)) before ≡ found → IsStrictlySortedBy nat_cmp (keys_of before) → IsChanged stream before after (Some (unwrap_or found [] ++ n ∷ []))
    → HasOneMore (record { stream = stream; oldest = n.oldest; newest = n.newest }) (sections_of before) (sections_of after)
one_more stream n before after found is up h k = by_test (k == stream) refl
  where
    by_test : (b : Bool) → (k == stream) ≡ b → of_stream k (sections_of after) ≡ of_stream k (sections_of before) ++ of_stream k (section stream n ∷ [])
    by_test true e =
        rw (alike k stream e, itself stream)
        (at_own stream after _ h.ordered h.own ∙ map-append (section stream) (unwrap_or found []) (n ∷ []) ∙ ap (λ ts. ts ++ section stream n ∷ []) (sym (at_own stream before found up is)))
    by_test false e =
        let ne : k ≢ stream = λ z. grind (arith, common_steps, z, e) in
        rw (unlike stream k (λ z. ne (sym z))) (others_kept stream before after _ up h k ne ∙ sym (append-nil (of_stream k (sections_of before))))

-- the first of a stream
pub first_taken : (stream : ℕ) (n : NamedEntries) (before after : List (ℕ × List NamedEntries)) (now : Option (List NamedEntries)) → lookup (is_at (nat_cmp stream)) before ≡ Some (n ∷ unwrap_or now []) → IsStrictlySortedBy nat_cmp (keys_of before) → IsChanged stream before after now
    → IsFirstTaken stream (sections_of before) (sections_of after) (Some n)
first_taken stream n before after now is up h =
    record { others = others_kept stream before after now up h; one = at_own stream before _ up is ∙ ap (λ ts. section stream n ∷ ts) (sym (at_own stream after now h.ordered h.own)); none = tt }

-- the last of a stream
pub last_taken : (stream : ℕ) (n : NamedEntries) (before after : List (ℕ × List NamedEntries)) (now : Option (List NamedEntries)) → lookup (is_at (nat_cmp stream)) before ≡ Some (unwrap_or now [] ++ n ∷ []) → IsStrictlySortedBy nat_cmp (keys_of before) → IsChanged stream before after now
    → IsLastTaken stream (sections_of before) (sections_of after) (Some n)
last_taken stream n before after now is up h =
    record { others = others_kept stream before after now up h; one = at_own stream before _ up is ∙ map-append (section stream) (unwrap_or now []) (n ∷ []) ∙ ap (λ ts. ts ++ section stream n ∷ []) (sym (at_own stream after now h.ordered h.own)); none = tt }

-- a stream without a section
pub none_of_map : (stream : ℕ) (es : List (ℕ × List NamedEntries)) → lookup (is_at (nat_cmp stream)) es ≡ None → of_stream stream (sections_of es) ≡ []
none_of_map stream [] is = refl
none_of_map stream (e ∷ es) is = of_both stream (sections_on e.0 e.1) (sections_of es) ∙ by_order (nat_cmp stream e.0) (ranked stream e.0 (nat_cmp stream e.0) refl) is (none_of_map stream es)
  where
    other : e.0 ≢ stream → of_stream stream (sections_of es) ≡ [] → of_stream stream (sections_on e.0 e.1) ++ of_stream stream (sections_of es) ≡ []
    other ne h = rw (of_none stream (sections_on e.0 e.1) (All-on (λ t. t.stream ≢ stream) e.0 (λ m. ne) e.1)) h

    by_order : (o : Ordering) → MatchOrdering o (stream < e.0) (stream ≡ e.0) (e.0 < stream) → cond (is_eq o) (Some e.1) (lookup (is_at (nat_cmp stream)) es) ≡ None
        → (lookup (is_at (nat_cmp stream)) es ≡ None → of_stream stream (sections_of es) ≡ []) → of_stream stream (sections_on e.0 e.1) ++ of_stream stream (sections_of es) ≡ []
    by_order Less lt found later = other (λ s. omega (arith, s, lt)) (later found)
    by_order Equal same found later = absurd (cc)
    by_order Greater gt found later = other (λ s. omega (arith, s, gt)) (later found)

pub no_first : (stream : ℕ) (es : List (ℕ × List NamedEntries)) → lookup (is_at (nat_cmp stream)) es ≡ None → IsFirstTaken stream (sections_of es) (sections_of es) None
no_first stream es is = let none = none_of_map stream es is in record { others = λ other ne. refl; one = tt; none = (none, none) }

pub no_last : (stream : ℕ) (es : List (ℕ × List NamedEntries)) → lookup (is_at (nat_cmp stream)) es ≡ None → IsLastTaken stream (sections_of es) (sections_of es) None
no_last stream es is = let none = none_of_map stream es is in record { others = λ other ne. refl; one = tt; none = (none, none) }

-- one number
pub only_one : (ns : List NamedEntries) → length ns ≡ 1 → (n : NamedEntries) × (ns ≡ n ∷ [])
only_one [] is = absurd (omega (arith, is))
only_one (n ∷ []) is = (n, refl)
only_one (n ∷ m ∷ ns) is = absurd (omega (arith, is))

-- there is one section less
pub one_less : (n : ℕ) (ts us : List TrackedSection) → IsWithoutOne n ts us → length ts ≡ length us + 1
one_less n ts us w = omega (arith, ap length w.was, ap length w.is, length-append w.front (w.taken ∷ w.back), length-append w.front w.back)
