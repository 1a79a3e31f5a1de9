-- The sections of one stream among those of all.
use Rattle.std.proofs.Common.{◌≡◌, ◌≢◌, ◌<◌, ◌≤◌, ℕ, Bool, true, false, ◌||◌, List, [], ◌∷◌, ◌++◌, length, cond, refl, sym, ◌∙◌, ap, arith, nat_lt, if◌then◌else◌, length-append}
use Rattle.std.specs.Prelude.{◌==◌, Option, Some, None}
use Rattle.std.specs.List.{list_any, AllByRecursion}
use Rattle.std.proofs.lemmas.Grind.{common_steps}
use Rattle.std.proofs.lemmas.List.{append-nil}
use Rattle.std.proofs.lemmas.List.Elements.{filter-append}
use Rattle.h3_table.specs.declared.tracking.NamedEntries.{NamedEntries}
use Rattle.h3_table.specs.declared.tracking.TrackedSection.{TrackedSection}
use Rattle.h3_table.specs.Tracking.{is_of, newest_named, without_newest, without_oldest_of}
use Rattle.h3_table.specs.InOrder.{put_first, put_last, in_order, Ascends}
use Rattle.h3_table.specs.Sections.{IsWithoutOne, IsOldestTaken, IsNewestTaken}
use Rattle.h3_table.specs.ByStream.{of_stream, HaveSame, HasOneMore, IsFirstTaken, IsLastTaken}
use Rattle.h3_table.specs.ReleasingLaws.{none_newest, none_removed}
use Rattle.h3_table.proofs.Releases.{last_goes}
use Rattle.h3_table.specs.InOrderLaws.{first_stays, filter_in_order, length_in_order, in_order_more, Ascends_in_order, oldest_in_order, newest_in_order}

pub itself : (stream : ℕ) → (stream == stream) ≡ true
itself stream = grind (arith, common_steps)

pub unlike : (m n : ℕ) → m ≢ n → (m == n) ≡ false
unlike m n ne = by_test (m == n) refl
  where
    by_test : (b : Bool) → (m == n) ≡ b → b ≡ false
    by_test true e = absurd (ne (grind (arith, common_steps)))
    by_test false e = refl

pub alike : (m n : ℕ) → (m == n) ≡ true → m ≡ n
alike m n e = grind (arith, common_steps)

-- of one stream and of another
pub of_none : (k : ℕ) (ts : List TrackedSection) → AllByRecursion (λ t. t.stream ≢ k) ts → of_stream k ts ≡ []
of_none k [] h = refl
of_none k (t ∷ ts) h = rw (unlike t.stream k h.0) (of_none k ts h.1)

pub of_both : (k : ℕ) (ts us : List TrackedSection) → of_stream k (ts ++ us) ≡ of_stream k ts ++ of_stream k us
of_both k ts us = filter-append (is_of k) ts us

abbrev stream_of : TrackedSection → ℕ
stream_of t = t.stream

-- those of one stream stand in order as they are
all_of : (k : ℕ) (ts : List TrackedSection) → AllByRecursion (λ t. t.stream ≡ k) (of_stream k ts)
all_of k [] = tt
all_of k (t ∷ ts) = by_test (t.stream == k) refl (all_of k ts)
  where
    by_test : (b : Bool) → (t.stream == k) ≡ b → AllByRecursion (λ t. t.stream ≡ k) (of_stream k ts) → AllByRecursion (λ t. t.stream ≡ k) (cond b (t ∷ of_stream k ts) (of_stream k ts))
    by_test true e h = (alike t.stream k e, h)
    by_test false e h = h

in_order-alike : (k : ℕ) (ts : List TrackedSection) → AllByRecursion (λ t. t.stream ≡ k) ts → in_order (λ t. t.stream) ts ≡ ts
in_order-alike k [] h = refl
in_order-alike k (t ∷ ts) h = ap (put_first (λ u. u.stream) t) (in_order-alike k ts h.1) ∙ first_stays stream_of t ts (not_less ts h.1)
  where
    not_less : (us : List TrackedSection) → AllByRecursion (λ u. u.stream ≡ k) us → AllByRecursion (λ u. t.stream ≤ u.stream) us
    not_less [] g = tt
    not_less (u ∷ us) g = (omega (arith, h.0, g.0), not_less us g.1)

pub of_stream-in_order : (k : ℕ) (ts : List TrackedSection) → of_stream k (in_order (λ t. t.stream) ts) ≡ of_stream k ts
of_stream-in_order k ts = filter_in_order (is_of k) stream_of ts ∙ in_order-alike k (of_stream k ts) (all_of k ts)

-- In order there is one list of the same sections.
above : (m n : ℕ) (ts : List TrackedSection) → m < n → AllByRecursion (λ t. n ≤ t.stream) ts → AllByRecursion (λ t. t.stream ≢ m) ts
above m n [] lt h = tt
above m n (t ∷ ts) lt h = ((λ e. omega (arith, e, lt, h.0)), above m n ts lt h.1)

own_first : (t : TrackedSection) (ts : List TrackedSection) → of_stream t.stream (t ∷ ts) ≡ t ∷ of_stream t.stream ts
own_first t ts = rw (itself t.stream) refl

other_first : (k : ℕ) (t : TrackedSection) (ts : List TrackedSection) → t.stream ≢ k → of_stream k (t ∷ ts) ≡ of_stream k ts
other_first k t ts ne = rw (unlike t.stream k ne) refl

abbrev head_or : TrackedSection → List TrackedSection → TrackedSection
head_or d [] = d
head_or d (t ∷ ts) = t

abbrev tail_of : List TrackedSection → List TrackedSection
tail_of [] = []
tail_of (t ∷ ts) = ts

pub some_differs : (t : TrackedSection) (ts : List TrackedSection) → t ∷ ts ≡ [] → ⊥
some_differs t ts e = cc

pub same_heads : (t u : TrackedSection) (ts us : List TrackedSection) → t ∷ ts ≡ u ∷ us → (t ≡ u) × (ts ≡ us)
same_heads t u ts us e = (ap (head_or t) e, ap tail_of e)

not_first : (t u : TrackedSection) (ts us : List TrackedSection) → Ascends stream_of (u ∷ us) → t.stream < u.stream → of_stream t.stream (t ∷ ts) ≡ of_stream t.stream (u ∷ us) → ⊥
not_first t u ts us up lt same =
    some_differs t (of_stream t.stream ts) (sym (own_first t ts) ∙ same ∙ of_none t.stream (u ∷ us) (above t.stream u.stream (u ∷ us) lt (omega arith, up.0)))

pub same_sections : (ts us : List TrackedSection) → Ascends stream_of ts → Ascends stream_of us → HaveSame us ts → ts ≡ us
same_sections [] [] up vp same = refl
same_sections [] (u ∷ us) up vp same = absurd (some_differs u (of_stream u.stream us) (sym (own_first u us) ∙ sym (same u.stream)))
same_sections (t ∷ ts) [] up vp same = absurd (some_differs t (of_stream t.stream ts) (sym (own_first t ts) ∙ same t.stream))
same_sections (t ∷ ts) (u ∷ us) up vp same = by_order (nat_lt t.stream u.stream) (nat_lt u.stream t.stream) refl refl (same_sections ts us up.1 vp.1)
  where
    together : t.stream ≡ u.stream → (HaveSame us ts → ts ≡ us) → t ∷ ts ≡ u ∷ us
    together e later =
        let own : of_stream u.stream (u ∷ us) ≡ u ∷ of_stream u.stream us = own_first u us in
        let mine : of_stream t.stream (t ∷ ts) ≡ t ∷ of_stream t.stream ts = own_first t ts in
        let heads = same_heads t u _ _ (sym mine ∙ same t.stream ∙ ap (λ k. of_stream k (u ∷ us)) e ∙ own) in
        let rest : HaveSame us ts = λ k. by_stream k (t.stream == k) refl heads.1 in
        ap (λ x. x ∷ ts) heads.0 ∙ ap (λ xs. u ∷ xs) (later rest)
      where
        by_stream : (k : ℕ) (b : Bool) → (t.stream == k) ≡ b → of_stream t.stream ts ≡ of_stream u.stream us → of_stream k ts ≡ of_stream k us
        by_stream k true f g = let is = alike t.stream k f in ap (λ m. of_stream m ts) (sym is) ∙ g ∙ ap (λ m. of_stream m us) (sym e ∙ is)
        by_stream k false f g =
            let far : t.stream ≢ k = λ z. grind (arith, common_steps, z, f) in
            sym (other_first k t ts far) ∙ same k ∙ other_first k u us (λ z. far (e ∙ z))

    by_order : (a b : Bool) → nat_lt t.stream u.stream ≡ a → nat_lt u.stream t.stream ≡ b → (HaveSame us ts → ts ≡ us) → t ∷ ts ≡ u ∷ us
    by_order true b e f later = absurd (not_first t u ts us vp (grind (arith, common_steps, e)) (same t.stream))
    by_order false true e f later = absurd (not_first u t us ts up (grind (arith, common_steps, f)) (sym (same u.stream)))
    by_order false false e f later = together (grind (arith, common_steps, e, f)) later

pub same_in_order : (ts us : List TrackedSection) → HaveSame ts us → in_order (λ t. t.stream) us ≡ in_order (λ t. t.stream) ts
same_in_order ts us same =
    same_sections (in_order (λ t. t.stream) us) (in_order (λ t. t.stream) ts) (Ascends_in_order stream_of us) (Ascends_in_order stream_of ts)
    (λ k. of_stream-in_order k us ∙ same k ∙ sym (of_stream-in_order k ts))

-- one section more
pub more_in_order : (t : TrackedSection) (ts us : List TrackedSection) → HasOneMore t ts us → in_order (λ t. t.stream) us ≡ put_last (λ t. t.stream) t (in_order (λ t. t.stream) ts)
more_in_order t ts us more = same_in_order (ts ++ t ∷ []) us (λ k. more k ∙ sym (of_both k ts (t ∷ []))) ∙ in_order_more stream_of ts t

-- without the oldest of a stream
oldest_others : (s k : ℕ) (ts : List TrackedSection) → k ≢ s → of_stream k (without_oldest_of s ts) ≡ of_stream k ts
oldest_others s k [] ne = refl
oldest_others s k (t ∷ ts) ne = by_test (t.stream == s) refl (oldest_others s k ts ne)
  where
    by_test : (b : Bool) → (t.stream == s) ≡ b → of_stream k (without_oldest_of s ts) ≡ of_stream k ts → of_stream k (if b then ts else t ∷ without_oldest_of s ts) ≡ of_stream k (t ∷ ts)
    by_test true e h = sym (other_first k t ts (λ z. ne (sym z ∙ alike t.stream s e)))
    by_test false e h = by_other (t.stream == k) h
      where
        by_other : (c : Bool) → of_stream k (without_oldest_of s ts) ≡ of_stream k ts → cond c (t ∷ of_stream k (without_oldest_of s ts)) (of_stream k (without_oldest_of s ts)) ≡ cond c (t ∷ of_stream k ts) (of_stream k ts)
        by_other true g = ap (λ us. t ∷ us) g
        by_other false g = g

oldest_own : (s : ℕ) (ts us : List TrackedSection) (t : TrackedSection) → of_stream s ts ≡ t ∷ us → of_stream s (without_oldest_of s ts) ≡ us
oldest_own s [] us t is = absurd (some_differs t us (sym is))
oldest_own s (u ∷ ts) us t is = by_test (u.stream == s) refl is (oldest_own s ts us t)
  where
    by_test : (b : Bool) → (u.stream == s) ≡ b → cond b (u ∷ of_stream s ts) (of_stream s ts) ≡ t ∷ us → (of_stream s ts ≡ t ∷ us → of_stream s (without_oldest_of s ts) ≡ us)
        → of_stream s (if b then ts else u ∷ without_oldest_of s ts) ≡ us
    by_test true e k later = (same_heads u t (of_stream s ts) us k).1
    by_test false e k later = rw e (later k)

oldest_one : (s : ℕ) (ts us : List TrackedSection) (t : TrackedSection) → of_stream s ts ≡ t ∷ us → IsWithoutOne t.oldest ts (without_oldest_of s ts)
oldest_one s [] us t is = absurd (some_differs t us (sym is))
oldest_one s (u ∷ ts) us t is = by_test (u.stream == s) is (oldest_one s ts us t)
  where
    by_test : (b : Bool) → cond b (u ∷ of_stream s ts) (of_stream s ts) ≡ t ∷ us → (of_stream s ts ≡ t ∷ us → IsWithoutOne t.oldest ts (without_oldest_of s ts))
        → IsWithoutOne t.oldest (u ∷ ts) (if b then ts else u ∷ without_oldest_of s ts)
    by_test true k later = record { front = []; back = ts; taken = u; names = ap (λ v. v.oldest) (same_heads u t (of_stream s ts) us k).0; was = refl; is = refl }
    by_test false k later = let w = later k in record { front = u ∷ w.front; back = w.back; taken = w.taken; names = w.names; was = ap (λ vs. u ∷ vs) w.was; is = ap (λ vs. u ∷ vs) w.is }

-- what the first of a stream names
oldest_names : (s : ℕ) (ts us : List TrackedSection) (t : TrackedSection) → of_stream s ts ≡ t ∷ us → t.newest ≡ newest_named s ts
oldest_names s [] us t is = absurd (some_differs t us (sym is))
oldest_names s (u ∷ ts) us t is = by_test (u.stream == s) is (oldest_names s ts us t)
  where
    by_test : (b : Bool) → cond b (u ∷ of_stream s ts) (of_stream s ts) ≡ t ∷ us → (of_stream s ts ≡ t ∷ us → t.newest ≡ newest_named s ts) → t.newest ≡ (if b then u.newest else newest_named s ts)
    by_test true k later = ap (λ v. v.newest) (sym (same_heads u t (of_stream s ts) us k).0)
    by_test false k later = later k

-- whether there is one
pub none_there : (s : ℕ) (ts : List TrackedSection) → of_stream s ts ≡ [] → list_any (is_of s) ts ≡ false
none_there s [] is = refl
none_there s (t ∷ ts) is = by_test (t.stream == s) is (none_there s ts)
  where
    by_test : (b : Bool) → cond b (t ∷ of_stream s ts) (of_stream s ts) ≡ [] → (of_stream s ts ≡ [] → list_any (is_of s) ts ≡ false) → (b || list_any (is_of s) ts) ≡ false
    by_test true k later = absurd (some_differs t (of_stream s ts) k)
    by_test false k later = later k

pub some_there : (s : ℕ) (ts us : List TrackedSection) (t : TrackedSection) → of_stream s ts ≡ t ∷ us → list_any (is_of s) ts ≡ true
some_there s [] us t is = absurd (some_differs t us (sym is))
some_there s (u ∷ ts) us t is = by_test (u.stream == s) is (some_there s ts us t)
  where
    by_test : (b : Bool) → cond b (u ∷ of_stream s ts) (of_stream s ts) ≡ t ∷ us → (of_stream s ts ≡ t ∷ us → list_any (is_of s) ts ≡ true) → (b || list_any (is_of s) ts) ≡ true
    by_test true k later = refl
    by_test false k later = later k

-- The first of its stream was taken: so it is in order.
pub oldest_taken : (s : ℕ) (ts us : List TrackedSection) (named : Option NamedEntries) → IsFirstTaken s ts us named → IsOldestTaken s (in_order (λ t. t.stream) ts) (in_order (λ t. t.stream) us) named
oldest_taken s ts us None h =
    let same : HaveSame ts us = λ k. by_stream k (k == s) refl in
    let is = same_in_order ts us same in
    let none = none_there s (in_order (λ t. t.stream) ts) (of_stream-in_order s ts ∙ h.none.0) in
    record { found = sym none; rest = is ∙ sym (none_removed s (in_order (λ t. t.stream) ts) none); newest = tt; one = tt; none = is }
  where
    by_stream : (k : ℕ) (b : Bool) → (k == s) ≡ b → of_stream k us ≡ of_stream k ts
    by_stream k true e = let is = alike k s e in ap (λ m. of_stream m us) is ∙ h.none.1 ∙ sym h.none.0 ∙ ap (λ m. of_stream m ts) (sym is)
    by_stream k false e = h.others k (λ z. grind (arith, common_steps, z, e))
oldest_taken s ts us (Some n) h =
    let same : HaveSame (without_oldest_of s ts) us = λ k. by_stream k (k == s) refl in
    let there = of_stream-in_order s ts ∙ h.one in
    let rest = same_in_order (without_oldest_of s ts) us same ∙ sym (oldest_in_order s ts) in
    record {
      found = sym (some_there s (in_order (λ t. t.stream) ts) (of_stream s us) _ there);
      rest = rest;
      newest = oldest_names s (in_order (λ t. t.stream) ts) (of_stream s us) _ there;
      one = rw rest (oldest_one s (in_order (λ t. t.stream) ts) (of_stream s us) _ there);
      none = tt;
    }
  where
    by_stream : (k : ℕ) (b : Bool) → (k == s) ≡ b → of_stream k us ≡ of_stream k (without_oldest_of s ts)
    by_stream k true e = let is = alike k s e in ap (λ m. of_stream m us) is ∙ sym (oldest_own s ts (of_stream s us) _ h.one) ∙ ap (λ m. of_stream m (without_oldest_of s ts)) (sym is)
    by_stream k false e = let ne : k ≢ s = λ z. grind (arith, common_steps, z, e) in h.others k ne ∙ sym (oldest_others s k ts ne)

-- without the newest of a stream
newest_others : (s k : ℕ) (ts : List TrackedSection) → k ≢ s → of_stream k (without_newest (is_of s) ts) ≡ of_stream k ts
newest_others s k [] ne = refl
newest_others s k (t ∷ ts) ne = by_tests (list_any (is_of s) ts) (t.stream == s) refl (newest_others s k ts ne)
  where
    by_other : (c : Bool) → of_stream k (without_newest (is_of s) ts) ≡ of_stream k ts → cond c (t ∷ of_stream k (without_newest (is_of s) ts)) (of_stream k (without_newest (is_of s) ts)) ≡ cond c (t ∷ of_stream k ts) (of_stream k ts)
    by_other true g = ap (λ us. t ∷ us) g
    by_other false g = g

    by_tests : (a b : Bool) → (t.stream == s) ≡ b → of_stream k (without_newest (is_of s) ts) ≡ of_stream k ts → of_stream k (if a then t ∷ without_newest (is_of s) ts else (if b then ts else t ∷ ts)) ≡ of_stream k (t ∷ ts)
    by_tests true b e h = by_other (t.stream == k) h
    by_tests false true e h = sym (other_first k t ts (λ z. ne (sym z ∙ alike t.stream s e)))
    by_tests false false e h = refl

any_kept : (s : ℕ) (ts : List TrackedSection) → list_any (is_of s) (of_stream s ts) ≡ list_any (is_of s) ts
any_kept s [] = refl
any_kept s (t ∷ ts) = by_test (t.stream == s) refl (any_kept s ts)
  where
    by_test : (b : Bool) → (t.stream == s) ≡ b → list_any (is_of s) (of_stream s ts) ≡ list_any (is_of s) ts → list_any (is_of s) (cond b (t ∷ of_stream s ts) (of_stream s ts)) ≡ (b || list_any (is_of s) ts)
    by_test true e h = rw e refl
    by_test false e h = h

newest_kept : (s : ℕ) (ts : List TrackedSection) → of_stream s (without_newest (is_of s) ts) ≡ without_newest (is_of s) (of_stream s ts)
newest_kept s [] = refl
newest_kept s (t ∷ ts) = by_tests (list_any (is_of s) ts) (t.stream == s) refl refl (newest_kept s ts)
  where
    by_tests : (a b : Bool) → list_any (is_of s) ts ≡ a → (t.stream == s) ≡ b → of_stream s (without_newest (is_of s) ts) ≡ without_newest (is_of s) (of_stream s ts)
        → of_stream s (if a then t ∷ without_newest (is_of s) ts else (if b then ts else t ∷ ts)) ≡ without_newest (is_of s) (cond b (t ∷ of_stream s ts) (of_stream s ts))
    by_tests true true e f h = rw (f, any_kept s ts, e) (ap (λ us. t ∷ us) h)
    by_tests true false e f h = rw f h
    by_tests false true e f h = rw (any_kept s ts, e, f) refl
    by_tests false false e f h = rw f (sym (none_newest (is_of s) (of_stream s ts) (any_kept s ts ∙ e)))

newest_own : (s : ℕ) (n : NamedEntries) (ts us : List TrackedSection) → of_stream s ts ≡ us ++ record { stream = s; oldest = n.oldest; newest = n.newest } ∷ [] → of_stream s (without_newest (is_of s) ts) ≡ us
newest_own s n ts us is = newest_kept s ts ∙ ap (without_newest (is_of s)) is ∙ last_goes (is_of s) us (record { stream = s; oldest = n.oldest; newest = n.newest }) [] (itself s) refl ∙ append-nil us

last_there : (s : ℕ) (n : NamedEntries) (ts us : List TrackedSection) → of_stream s ts ≡ us ++ record { stream = s; oldest = n.oldest; newest = n.newest } ∷ [] → list_any (is_of s) ts ≡ true
last_there s n ts [] is = some_there s ts [] _ is
last_there s n ts (u ∷ us) is = some_there s ts _ u is

-- the last of a stream, with none of it behind
newest_one : (s : ℕ) (n : NamedEntries) (ts us : List TrackedSection) → of_stream s ts ≡ us ++ record { stream = s; oldest = n.oldest; newest = n.newest } ∷ [] → IsWithoutOne n.oldest ts (without_newest (is_of s) ts)
newest_one s n [] [] is = absurd (some_differs _ [] (sym is))
newest_one s n [] (u ∷ us) is = absurd (some_differs u _ (sym is))
newest_one s n (t ∷ ts) us is = by_tests (list_any (is_of s) ts) (t.stream == s) refl is (newest_one s n ts)
  where
    more : IsWithoutOne n.oldest ts (without_newest (is_of s) ts) → IsWithoutOne n.oldest (t ∷ ts) (t ∷ without_newest (is_of s) ts)
    more w = record { front = t ∷ w.front; back = w.back; taken = w.taken; names = w.names; was = ap (λ vs. t ∷ vs) w.was; is = ap (λ vs. t ∷ vs) w.is }

    nothing : (vs : List TrackedSection) → list_any (is_of s) ts ≡ false → of_stream s ts ≡ vs ++ record { stream = s; oldest = n.oldest; newest = n.newest } ∷ [] → ⊥
    nothing vs none k = let both : true ≡ false = sym (last_there s n ts vs k) ∙ none in cc

    behind : (vs : List TrackedSection) → list_any (is_of s) ts ≡ true → t ∷ of_stream s ts ≡ vs ++ record { stream = s; oldest = n.oldest; newest = n.newest } ∷ [] → ((vs : List TrackedSection) → of_stream s ts ≡ vs ++ record { stream = s; oldest = n.oldest; newest = n.newest } ∷ [] → IsWithoutOne n.oldest ts (without_newest (is_of s) ts)) → IsWithoutOne n.oldest ts (without_newest (is_of s) ts)
    behind [] some k later = let both : true ≡ false = sym some ∙ none_there s ts (same_heads t _ (of_stream s ts) [] k).1 in absurd (cc)
    behind (v ∷ vs) some k later = later vs (same_heads t v (of_stream s ts) _ k).1

    own : (vs : List TrackedSection) → list_any (is_of s) ts ≡ false → t ∷ of_stream s ts ≡ vs ++ record { stream = s; oldest = n.oldest; newest = n.newest } ∷ [] → IsWithoutOne n.oldest (t ∷ ts) ts
    own [] none k = record { front = []; back = ts; taken = t; names = ap (λ v. v.oldest) (same_heads t _ (of_stream s ts) [] k).0; was = refl; is = refl }
    own (v ∷ vs) none k = absurd (nothing vs none (same_heads t v (of_stream s ts) _ k).1)

    by_tests : (a b : Bool) → list_any (is_of s) ts ≡ a → cond b (t ∷ of_stream s ts) (of_stream s ts) ≡ us ++ record { stream = s; oldest = n.oldest; newest = n.newest } ∷ []
        → ((vs : List TrackedSection) → of_stream s ts ≡ vs ++ record { stream = s; oldest = n.oldest; newest = n.newest } ∷ [] → IsWithoutOne n.oldest ts (without_newest (is_of s) ts)) → IsWithoutOne n.oldest (t ∷ ts) (if a then t ∷ without_newest (is_of s) ts else (if b then ts else t ∷ ts))
    by_tests true true e k later = more (behind us e k later)
    by_tests true false e k later = more (later us k)
    by_tests false true e k later = own us e k
    by_tests false false e k later = absurd (nothing us e k)

-- The last of its stream was taken: so it is in order.
pub newest_taken : (s : ℕ) (ts us : List TrackedSection) (named : Option NamedEntries) → IsLastTaken s ts us named → IsNewestTaken s (in_order (λ t. t.stream) ts) (in_order (λ t. t.stream) us) named
newest_taken s ts us None h =
    let same : HaveSame ts us = λ k. by_stream k (k == s) refl in
    let is = same_in_order ts us same in
    let none = none_there s (in_order (λ t. t.stream) ts) (of_stream-in_order s ts ∙ h.none.0) in
    record { found = sym none; rest = is ∙ sym (none_newest (is_of s) (in_order (λ t. t.stream) ts) none); one = tt; none = is }
  where
    by_stream : (k : ℕ) (b : Bool) → (k == s) ≡ b → of_stream k us ≡ of_stream k ts
    by_stream k true e = let is = alike k s e in ap (λ m. of_stream m us) is ∙ h.none.1 ∙ sym h.none.0 ∙ ap (λ m. of_stream m ts) (sym is)
    by_stream k false e = h.others k (λ z. grind (arith, common_steps, z, e))
newest_taken s ts us (Some n) h =
    let same : HaveSame (without_newest (is_of s) ts) us = λ k. by_stream k (k == s) refl in
    let there = of_stream-in_order s ts ∙ h.one in
    let rest = same_in_order (without_newest (is_of s) ts) us same ∙ sym (newest_in_order stream_of s ts) in
    record { found = sym (last_there s n (in_order (λ t. t.stream) ts) (of_stream s us) there); rest = rest; one = rw rest (newest_one s n (in_order (λ t. t.stream) ts) (of_stream s us) there); none = tt }
  where
    by_stream : (k : ℕ) (b : Bool) → (k == s) ≡ b → of_stream k us ≡ of_stream k (without_newest (is_of s) ts)
    by_stream k true e = let is = alike k s e in ap (λ m. of_stream m us) is ∙ sym (newest_own s n ts (of_stream s us) h.one) ∙ ap (λ m. of_stream m (without_newest (is_of s) ts)) (sym is)
    by_stream k false e = let ne : k ≢ s = λ z. grind (arith, common_steps, z, e) in h.others k ne ∙ sym (newest_others s k ts ne)

pub none_left : (ts us : List TrackedSection) → length (in_order (λ t. t.stream) (ts ++ us)) ≡ 0 → ts ≡ []
none_left [] us is = refl
none_left (t ∷ ts) us is = absurd (omega (arith, is, length_in_order stream_of (t ∷ ts ++ us), length-append ts us))
