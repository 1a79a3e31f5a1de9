-- Streams that count as canceled, where all are kept whose cancellation was read or at most so many.
use Rattle.std.proofs.Common.{◌≡◌, ◌≢◌, ℕ, suc, ◌+◌, ◌≤◌, Bool, true, false, not, ◌&&◌, ◌||◌, max, List, [], ◌∷◌, ◌++◌, length, cond, refl, sym, ◌∙◌, ap, arith, nat_lt, if◌then◌else◌, Some}
use Rattle.std.specs.Prelude.{◌==◌}
use Rattle.std.specs.List.{list_any}
use Rattle.std.specs.Ordering.{nat_cmp, match_ordering}
use Rattle.std.specs.declared.cmp.Ordering.{Ordering}
use Rattle.std.specs.declared.cmp.Ordering.TheVariants.{Less, Equal, Greater}
use Rattle.std.specs.BTreeSet.{insert_key}
use Rattle.std.proofs.lemmas.Grind.{common_steps}
use Rattle.std.proofs.lemmas.List.Folds.{list_any-append}
use Rattle.h3_table.specs.Cancellations.{Cancellations, are_too_many, without_least, keeping, with_canceled, is_kept, counts_as_canceled, KeepsAll}
use Rattle.h3_qpack.specs.EncoderHistory.{UnacknowledgedSection, released, without_stream}
use Rattle.h3_qpack.specs.Session.{tracked_references}
use Rattle.h3_qpack.proofs.Canceled.{canceled_more}

-- a section of the stream is among these
abbrev pub is_among : ℕ → List UnacknowledgedSection → Bool
is_among stream ts = list_any (λ section. section.stream == stream) ts

pub no_names : (stream : ℕ) (ts : List UnacknowledgedSection) → is_among stream ts ≡ false → tracked_references stream ts ≡ []
no_names stream [] none = refl
no_names stream (t ∷ ts) none = by_test (t.stream == stream) none (no_names stream ts)
  where
    by_test : (b : Bool) → (b || is_among stream ts) ≡ false → (is_among stream ts ≡ false → tracked_references stream ts ≡ [])
        → (if b then t.references ∷ tracked_references stream ts else tracked_references stream ts) ≡ []
    by_test true h later = absurd (cc)
    by_test false h later = later h

pub no_section : (stream : ℕ) (ts : List UnacknowledgedSection) → tracked_references stream ts ≡ [] → is_among stream ts ≡ false
no_section stream [] none = refl
no_section stream (t ∷ ts) none = by_test (t.stream == stream) none (no_section stream ts)
  where
    by_test : (b : Bool) → (if b then t.references ∷ tracked_references stream ts else tracked_references stream ts) ≡ [] → (tracked_references stream ts ≡ [] → is_among stream ts ≡ false)
        → (b || is_among stream ts) ≡ false
    by_test true h later = absurd (cc)
    by_test false h later = later h

pub kept_counts : (c : Cancellations) (stream : ℕ) (b : Bool) → is_kept c stream ≡ true → counts_as_canceled c stream b ≡ true
kept_counts c stream b k = rw k refl

-- A stream that counts as canceled is kept, or has no tracked section.
pub untracked_by : (c : Cancellations) (ts : List UnacknowledgedSection) (stream : ℕ) → (is_kept c stream ≡ true → tracked_references stream ts ≡ []) → counts_as_canceled c stream (is_among stream ts) ≡ true
    → tracked_references stream ts ≡ []
untracked_by c ts stream own counts = by_tests (is_kept c stream) (nat_lt stream c.below) (is_among stream ts) refl refl counts
  where
    by_tests : (k l a : Bool) → is_kept c stream ≡ k → is_among stream ts ≡ a → (k || (l && not a)) ≡ true → tracked_references stream ts ≡ []
    by_tests true l a e f h = own e
    by_tests false l false e f h = no_names stream ts f
    by_tests false true true e f h = absurd (cc)
    by_tests false false true e f h = absurd (cc)

-- with fewer sections it counts too
pub canceled_before : (c : Cancellations) (ts more : List UnacknowledgedSection) (stream : ℕ) → counts_as_canceled c stream (is_among stream (ts ++ more)) ≡ true → counts_as_canceled c stream (is_among stream ts) ≡ true
canceled_before c ts more stream counts =
    by_tests (is_kept c stream) (nat_lt stream c.below) (is_among stream ts) (is_among stream more)
    (sym (ap (counts_as_canceled c stream) (list_any-append (λ (section : UnacknowledgedSection). section.stream == stream) ts more)) ∙ counts)
  where
    by_tests : (k l a b : Bool) → (k || (l && not (a || b))) ≡ true → (k || (l && not a)) ≡ true
    by_tests true l a b h = refl
    by_tests false false a b h = absurd (cc)
    by_tests false true true b h = absurd (cc)
    by_tests false true false b h = refl

same : (a b : ℕ) → (a == b) ≡ true → a ≡ b
same a b e = grind (arith, common_steps)

unlike : (a b : ℕ) → a ≢ b → (a == b) ≡ false
unlike a b ne = grind (arith, common_steps)

itself : (n : ℕ) → (n == n) ≡ true
itself n = grind (arith, common_steps)

below_more : (a b : ℕ) → nat_lt a (max b (a + 1)) ≡ true
below_more a b = grind (arith, common_steps)

below_still : (a b n : ℕ) → nat_lt a b ≡ true → nat_lt a (max b n) ≡ true
below_still a b n lt = grind (arith, common_steps, lt)

-- what is kept was kept, or was canceled now
pub kept_before : (c : Cancellations) (stream other : ℕ) → stream ≢ other → is_kept (with_canceled c stream) other ≡ true → is_kept c other ≡ true
kept_before c stream other ne k = by_below (nat_lt stream c.below) k
  where
    ids : List ℕ
    ids = insert_key nat_cmp c.kept stream

    among : list_any (λ id. id == other) ids ≡ true → is_kept c other ≡ true
    among h = sym (canceled_more stream other c.kept ∙ ap (λ b. b || is_kept c other) (unlike stream other ne)) ∙ h

    least_gone : (l : List ℕ) → ids ≡ l → is_kept (without_least c l) other ≡ true → is_kept c other ≡ true
    least_gone [] e h = absurd (cc)
    least_gone (least ∷ rest) e h = among (ap (λ l. list_any (λ id. id == other) l) e ∙ or_true (least == other) h)
      where
        or_true : (b : Bool) → list_any (λ id. id == other) rest ≡ true → (b || list_any (λ id. id == other) rest) ≡ true
        or_true true g = refl
        or_true false g = g

    by_many : (b : Bool) → is_kept (if b then without_least c ids else record c { kept = ids }) other ≡ true → is_kept c other ≡ true
    by_many true h = least_gone ids refl h
    by_many false h = among h

    by_below : (b : Bool) → is_kept (if b then c else keeping c ids) other ≡ true → is_kept c other ≡ true
    by_below true h = h
    by_below false h = by_many (are_too_many c.most ids) h

-- A stream is kept or below the number: it counts as canceled once it has no tracked section.
abbrev reaches : Cancellations → ℕ → Bool
reaches c stream = is_kept c stream || nat_lt stream c.below

reaches_more : (c : Cancellations) (stream other : ℕ) → ((stream == other) || reaches c other) ≡ true → reaches (with_canceled c stream) other ≡ true
reaches_more c stream other h = by_below (nat_lt stream c.below) refl
  where
    ids : List ℕ
    ids = insert_key nat_cmp c.kept stream

    among : (list_any (λ id. id == other) ids || nat_lt other c.below) ≡ true
    among = ap (λ b. b || nat_lt other c.below) (canceled_more stream other c.kept) ∙ joined (stream == other) (is_kept c other) (nat_lt other c.below) h
      where
        joined : (a b d : Bool) → (a || (b || d)) ≡ true → ((a || b) || d) ≡ true
        joined true b d g = refl
        joined false b d g = g

    least_gone : (l : List ℕ) → ids ≡ l → reaches (without_least c l) other ≡ true
    least_gone [] e = sym (ap (λ l. list_any (λ id. id == other) l || nat_lt other c.below) e) ∙ among
    least_gone (least ∷ rest) e =
        by_tests (least == other) (list_any (λ id. id == other) rest) (nat_lt other c.below) refl refl
        (sym (ap (λ l. list_any (λ id. id == other) l || nat_lt other c.below) e) ∙ among)
      where
        by_tests : (a b d : Bool) → (least == other) ≡ a → nat_lt other c.below ≡ d → ((a || b) || d) ≡ true → (b || nat_lt other (max c.below (least + 1))) ≡ true
        by_tests a true d f g k = refl
        by_tests true false d f g k = ap (λ n. nat_lt n (max c.below (least + 1))) (sym (same least other f)) ∙ below_more least c.below
        by_tests false false true f g k = below_still other c.below (least + 1) g
        by_tests false false false f g k = absurd (cc)

    by_many : (b : Bool) → reaches (if b then without_least c ids else record c { kept = ids }) other ≡ true
    by_many true = least_gone ids refl
    by_many false = among

    there : (a : Bool) → (stream == other) ≡ a → nat_lt stream c.below ≡ true → (a || reaches c other) ≡ true → reaches c other ≡ true
    there true e lt g = ap (λ b. is_kept c other || b) (ap (λ n. nat_lt n c.below) (sym (same stream other e)) ∙ lt) ∙ or_true (is_kept c other)
      where
        or_true : (b : Bool) → (b || true) ≡ true
        or_true true = refl
        or_true false = refl
    there false e lt g = g

    by_below : (b : Bool) → nat_lt stream c.below ≡ b → reaches (if b then c else keeping c ids) other ≡ true
    by_below true e = there (stream == other) refl e h
    by_below false e = by_many (are_too_many c.most ids)

-- without a tracked section
untracked_counts : (c : Cancellations) (stream : ℕ) (b : Bool) → b ≡ false → reaches c stream ≡ true → counts_as_canceled c stream b ≡ true
untracked_counts c stream b none r = rw none (by_tests (is_kept c stream) (nat_lt stream c.below) r)
  where
    by_tests : (k l : Bool) → (k || l) ≡ true → (k || (l && true)) ≡ true
    by_tests true l h = refl
    by_tests false true h = refl
    by_tests false false h = absurd (cc)

pub counting_reaches : (c : Cancellations) (stream : ℕ) (b : Bool) → counts_as_canceled c stream b ≡ true → reaches c stream ≡ true
counting_reaches c stream b h = by_tests (is_kept c stream) (nat_lt stream c.below) b h
  where
    by_tests : (k l a : Bool) → (k || (l && not a)) ≡ true → (k || l) ≡ true
    by_tests true l a g = refl
    by_tests false true a g = refl
    by_tests false false a g = absurd (cc)

none_left : (stream : ℕ) (ts : List UnacknowledgedSection) → is_among stream (without_stream stream ts) ≡ false
none_left stream [] = refl
none_left stream (t ∷ ts) = by_test (t.stream == stream) refl (none_left stream ts)
  where
    by_test : (b : Bool) → (t.stream == stream) ≡ b → is_among stream (without_stream stream ts) ≡ false → is_among stream (cond (not b) (t ∷ without_stream stream ts) (without_stream stream ts)) ≡ false
    by_test true e h = h
    by_test false e h = rw e h

none_more : (stream other : ℕ) (ts : List UnacknowledgedSection) → is_among other ts ≡ false → is_among other (without_stream stream ts) ≡ false
none_more stream other [] none = refl
none_more stream other (t ∷ ts) none = by_tests (not (t.stream == stream)) (t.stream == other) refl none (none_more stream other ts)
  where
    by_tests : (a b : Bool) → (t.stream == other) ≡ b → (b || is_among other ts) ≡ false → (is_among other ts ≡ false → is_among other (without_stream stream ts) ≡ false)
        → is_among other (cond a (t ∷ without_stream stream ts) (without_stream stream ts)) ≡ false
    by_tests a true e h later = absurd (cc)
    by_tests true false e h later = rw e (later h)
    by_tests false false e h later = later h

none_released : (stream other : ℕ) (ts : List UnacknowledgedSection) → is_among other ts ≡ false → is_among other (released stream ts) ≡ false
none_released stream other [] none = refl
none_released stream other (t ∷ ts) none = by_tests (t.stream == stream) (t.stream == other) refl none (none_released stream other ts)
  where
    by_tests : (a b : Bool) → (t.stream == other) ≡ b → (b || is_among other ts) ≡ false → (is_among other ts ≡ false → is_among other (released stream ts) ≡ false)
        → is_among other (if a then ts else t ∷ released stream ts) ≡ false
    by_tests a true e h later = absurd (cc)
    by_tests true false e h later = h
    by_tests false false e h later = rw e (later h)

-- A stream counts as canceled once its cancellation was read.
pub canceled_now : (c : Cancellations) (ts : List UnacknowledgedSection) (stream : ℕ) → counts_as_canceled (with_canceled c stream) stream (is_among stream (without_stream stream ts)) ≡ true
canceled_now c ts stream =
    untracked_counts (with_canceled c stream) stream (is_among stream (without_stream stream ts)) (none_left stream ts) (reaches_more c stream stream (ap (λ b. b || reaches c stream) (itself stream)))

-- And so it does from then on, where it has no tracked section.
pub canceled_still : (c : Cancellations) (ts : List UnacknowledgedSection) (stream other : ℕ) → is_among other ts ≡ false → counts_as_canceled c other (is_among other ts) ≡ true
    → counts_as_canceled (with_canceled c stream) other (is_among other (without_stream stream ts)) ≡ true
canceled_still c ts stream other none counts =
    untracked_counts (with_canceled c stream) other (is_among other (without_stream stream ts)) (none_more stream other ts none)
    (reaches_more c stream other (or_right (stream == other) (reaches c other) (counting_reaches c other (is_among other ts) counts)))
  where
    or_right : (a b : Bool) → b ≡ true → (a || b) ≡ true
    or_right true b h = refl
    or_right false b h = h

pub released_still : (c : Cancellations) (ts : List UnacknowledgedSection) (stream other : ℕ) → is_among other ts ≡ false → counts_as_canceled c other (is_among other ts) ≡ true
    → counts_as_canceled c other (is_among other (released stream ts)) ≡ true
released_still c ts stream other none counts =
    untracked_counts c other (is_among other (released stream ts)) (none_released stream other ts none) (counting_reaches c other (is_among other ts) counts)

-- A section on a stream that does not count as canceled changes nothing of that.
pub sent_still : (c : Cancellations) (ts : List UnacknowledgedSection) (names : List ℕ) (stream other : ℕ) (b : Bool) → counts_as_canceled c stream (is_among stream ts) ≡ false
    → counts_as_canceled c other (is_among other (ts ++ (if b then [] else record { stream = stream; references = names } ∷ []))) ≡ counts_as_canceled c other (is_among other ts)
sent_still c ts names stream other b alive =
    ap (counts_as_canceled c other) (list_any-append (λ (section : UnacknowledgedSection). section.stream == other) ts _) ∙ by_test b (stream == other) refl
  where
    or_none : (a : Bool) → (a || false) ≡ a
    or_none true = refl
    or_none false = refl

    neither : (k l a d : Bool) → (k || (l && not a)) ≡ false → (k || (l && not (a || d))) ≡ (k || (l && not a))
    neither true l a d h = refl
    neither false false a d h = refl
    neither false true true d h = refl
    neither false true false d h = absurd (cc)

    by_test : (t s : Bool) → (stream == other) ≡ s
        → counts_as_canceled c other (is_among other ts || is_among other (if t then [] else record { stream = stream; references = names } ∷ [])) ≡ counts_as_canceled c other (is_among other ts)
    by_test true s e = ap (counts_as_canceled c other) (or_none (is_among other ts))
    by_test false false e = rw e (ap (counts_as_canceled c other) (or_none (is_among other ts)))
    by_test false true e =
        let is = same stream other e in
        neither (is_kept c other) (nat_lt other c.below) (is_among other ts) ((stream == other) || false) (sym (ap (λ n. counts_as_canceled c n (is_among n ts)) is) ∙ alive)

-- Where all are kept, a stream counts as canceled if it is kept.
none_below : (n below : ℕ) → below ≡ 0 → nat_lt n below ≡ false
none_below n below is = grind (arith, common_steps, is)

all_kept : (c : Cancellations) (stream : ℕ) (b : Bool) → KeepsAll c → counts_as_canceled c stream b ≡ is_kept c stream
all_kept c stream b all = rw (none_below stream c.below all.1) (or_none (is_kept c stream))
  where
    or_none : (a : Bool) → (a || false) ≡ a
    or_none true = refl
    or_none false = refl

pub all_more : (c : Cancellations) (stream : ℕ) → KeepsAll c → with_canceled c stream ≡ record c { kept = insert_key nat_cmp c.kept stream }
all_more c stream all = rw (none_below stream c.below all.1, all.0) refl

pub all_canceled : (c : Cancellations) (stream other : ℕ) (a b : Bool) → KeepsAll c → counts_as_canceled (with_canceled c stream) other a ≡ ((stream == other) || counts_as_canceled c other b)
all_canceled c stream other a b all =
    ap (λ d. counts_as_canceled d other a) (all_more c stream all) ∙ all_kept (record c { kept = insert_key nat_cmp c.kept stream }) other a all ∙ canceled_more stream other c.kept
    ∙ ap (λ t. (stream == other) || t) (sym (all_kept c other b all))

pub all_same : (c : Cancellations) (stream : ℕ) (a b : Bool) → KeepsAll c → counts_as_canceled c stream a ≡ counts_as_canceled c stream b
all_same c stream a b all = all_kept c stream a all ∙ sym (all_kept c stream b all)

pub all_still : (c : Cancellations) (stream : ℕ) → KeepsAll c → KeepsAll (with_canceled c stream)
all_still c stream all = rw (all_more c stream all) all

-- At most so many are kept.
one_longer : (ids : List ℕ) (id : ℕ) → length (insert_key nat_cmp ids id) ≤ suc (length ids)
one_longer [] id = omega arith
one_longer (k ∷ ids) id = by_order (nat_cmp id k) (one_longer ids id)
  where
    by_order : (o : Ordering) → length (insert_key nat_cmp ids id) ≤ suc (length ids) → length (match_ordering o (id ∷ k ∷ ids) (k ∷ ids) (k ∷ insert_key nat_cmp ids id)) ≤ suc (suc (length ids))
    by_order Less h = omega arith
    by_order Equal h = omega arith
    by_order Greater h = omega (arith, h)

not_many : (most : ℕ) (ids : List ℕ) → nat_lt most (length ids) ≡ false → length ids ≤ most
not_many most ids e = grind (arith, common_steps, e)

pub few_kept : (c : Cancellations) (stream most : ℕ) → c.most ≡ Some most → length c.kept ≤ most → ((with_canceled c stream).most ≡ Some most) × (length (with_canceled c stream).kept ≤ most)
few_kept c stream most is few = by_below (nat_lt stream c.below)
  where
    ids : List ℕ
    ids = insert_key nat_cmp c.kept stream

    IsFew : Cancellations → Type 0
    IsFew d = (d.most ≡ Some most) × (length d.kept ≤ most)

    least_gone : (l : List ℕ) → ids ≡ l → IsFew (without_least c l)
    least_gone [] e = (is, omega arith)
    least_gone (least ∷ rest) e = (is, omega (arith, few, ap length e, one_longer c.kept stream))

    by_many : (b : Bool) → are_too_many c.most ids ≡ b → IsFew (if b then without_least c ids else record c { kept = ids })
    by_many true e = least_gone ids refl
    by_many false e = (is, not_many most ids (sym (ap (λ o. are_too_many o ids) is) ∙ e))

    by_below : (b : Bool) → IsFew (if b then c else keeping c ids)
    by_below true = (is, few)
    by_below false = by_many (are_too_many c.most ids) refl
