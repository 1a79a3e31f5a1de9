-- What a decoder tells an encoder fits what is tracked and known.
use Rattle.std.proofs.Common.{◌≡◌, ◌≢◌, ℕ, ◌+◌, ◌≤◌, ◌⊎◌, inl, inr, Bool, true, false, not, ◌||◌, List, [], ◌∷◌, ◌++◌, drop, refl, sym, ◌∙◌, ap, subst, arith, cond, max, if◌then◌else◌}
use Rattle.std.specs.List.{list_any, fold}
use Rattle.std.specs.Prelude.{◌==◌}
use Rattle.std.proofs.lemmas.Bool.{cases_eq}
use Rattle.std.proofs.lemmas.Grind.{common_steps}
use Rattle.std.proofs.lemmas.List.{drop-drop}
use Rattle.std.proofs.lemmas.List.Elements.{filter-append}
use Rattle.std.proofs.lemmas.List.Folds.{list_any-append}
use Rattle.h3_field.specs.Instruction.{DecoderInstruction}
use Rattle.h3_field.specs.Instruction.DecoderInstruction.{Acknowledge, CancelStream, Increment}
use Rattle.h3_qpack.specs.EncoderHistory.{UnacknowledgedSection, acknowledged_count, released, without_stream}
use Rattle.h3_qpack.specs.Session.{increments, acknowledgments, tracked_references, CancelsAreLast, AreTold}

-- the oldest section of a stream goes, and those of other streams stay
release_first : (stream : ℕ) (b : UnacknowledgedSection) (bs : List UnacknowledgedSection) (t : Bool) → (b.stream == stream) ≡ t
    → tracked_references stream (released stream bs) ≡ drop 1 (tracked_references stream bs)
    → tracked_references stream (if t then bs else b ∷ released stream bs) ≡ drop 1 (if t then b.references ∷ tracked_references stream bs else tracked_references stream bs)
release_first stream b bs true e h = refl
release_first stream b bs false e h = rw e h

pub released_names : (stream : ℕ) (bs : List UnacknowledgedSection) → tracked_references stream (released stream bs) ≡ drop 1 (tracked_references stream bs)
released_names stream [] = refl
released_names stream (b ∷ bs) = release_first stream b bs (b.stream == stream) refl (released_names stream bs)

pub released_others : (stream other : ℕ) (bs : List UnacknowledgedSection) → stream ≢ other → tracked_references other (released stream bs) ≡ tracked_references other bs
released_others stream other [] ne = refl
released_others stream other (b ∷ bs) ne = grind (arith, common_steps, released_others stream other bs ne)

-- all sections of a stream go, and those of other streams stay
pub without_others : (stream other : ℕ) (bs : List UnacknowledgedSection) → stream ≢ other → tracked_references other (without_stream stream bs) ≡ tracked_references other bs
without_others stream other [] ne = refl
without_others stream other (b ∷ bs) ne = by_test (b.stream == stream) refl (without_others stream other bs ne)
  where
    by_test : (t : Bool) → (b.stream == stream) ≡ t → tracked_references other (without_stream stream bs) ≡ tracked_references other bs
        → tracked_references other (cond (not t) (b ∷ without_stream stream bs) (without_stream stream bs)) ≡ (if b.stream == other then b.references ∷ tracked_references other bs else tracked_references other bs)
    by_test true e h = let no : (b.stream == other) ≡ false = grind (arith, common_steps) in rw (no, h) refl
    by_test false e h = rw h refl

-- of an acknowledgment under way the stream has a tracked section
pub one_acknowledged : (stream : ℕ) (rest : List DecoderInstruction) → acknowledgments stream (Acknowledge stream ∷ rest) ≡ 1 + acknowledgments stream rest
one_acknowledged stream rest = grind (arith, common_steps)

pub other_acknowledged : (stream other : ℕ) (rest : List DecoderInstruction) → stream ≢ other → acknowledgments other (Acknowledge stream ∷ rest) ≡ acknowledgments other rest
other_acknowledged stream other rest ne = grind (arith, common_steps)

-- whatever fits everywhere fits behind them
pub told_behind : (known : ℕ) (tracked : List UnacknowledgedSection) (is more : List DecoderInstruction) → AreTold known tracked is
    → ((k : ℕ) (ts : List UnacknowledgedSection) → AreTold k ts more) → AreTold known tracked (is ++ more)
told_behind known tracked [] more h fits = fits known tracked
told_behind known tracked (Increment count ∷ is) more h fits = (h.0, told_behind (known + count) tracked is more h.1 fits)
told_behind known tracked (Acknowledge stream ∷ is) more h fits = (h.0, h.1, told_behind known (released stream tracked) is more h.2 fits)
told_behind known tracked (CancelStream stream ∷ is) more h fits = told_behind known (without_stream stream tracked) is more h fits

-- what the oldest section of a stream names
first_names : (stream : ℕ) (ts : List UnacknowledgedSection) (names : List ℕ) (more : List (List ℕ)) → tracked_references stream ts ≡ names ∷ more
    → (list_any (λ section. section.stream == stream) ts ≡ true) × (acknowledged_count stream ts ≡ fold max 0 names)
first_names stream [] names more e = absurd (cc)
first_names stream (t ∷ ts) names more e = by_test (t.stream == stream) e (first_names stream ts names more)
  where
    head_or : List ℕ → List (List ℕ) → List ℕ
    head_or d [] = d
    head_or d (n ∷ ns) = n

    by_test : (b : Bool) → (if b then t.references ∷ tracked_references stream ts else tracked_references stream ts) ≡ names ∷ more
        → (tracked_references stream ts ≡ names ∷ more → (list_any (λ section. section.stream == stream) ts ≡ true) × (acknowledged_count stream ts ≡ fold max 0 names))
        → ((b || list_any (λ section. section.stream == stream) ts) ≡ true) × ((if b then fold max 0 t.references else acknowledged_count stream ts) ≡ fold max 0 names)
    by_test true k later = (refl, ap (fold max 0) (ap (head_or []) k))
    by_test false k later = later k

-- An acknowledgment fits behind them, of a stream that is not given up, where the insertions that its section needs are known by then.
pub told_acknowledgment : (stream : ℕ) (names : List ℕ) (more : List (List ℕ)) (canceled : List ℕ) (known : ℕ) (tracked : List UnacknowledgedSection) (is : List DecoderInstruction)
    → list_any (λ other. other == stream) canceled ≡ false → CancelsAreLast canceled is → AreTold known tracked is
    → drop (acknowledgments stream is) (tracked_references stream tracked) ≡ names ∷ more → fold max 0 names ≤ known + increments is → AreTold known tracked (is ++ Acknowledge stream ∷ [])
told_acknowledgment stream names more canceled known tracked [] alive last h own came =
    let first = first_names stream tracked names more own in
    let here : fold max 0 names ≤ known + 0 = came in
    (first.0, omega (arith, first.1, here), tt)
told_acknowledgment stream names more canceled known tracked (Increment count ∷ is) alive last h own came =
    let here : fold max 0 names ≤ known + (count + increments is) = came in
    (h.0, told_acknowledgment stream names more canceled (known + count) tracked is alive last h.1 own (omega (arith, here)))
told_acknowledgment stream names more canceled known tracked (Acknowledge other ∷ is) alive last h own came =
    (h.0, h.1, told_acknowledgment stream names more canceled known (released other tracked) is alive last h.2 (left (cases_eq other stream)) came)
  where
    left : (other ≡ stream) ⊎ (other ≢ stream) → drop (acknowledgments stream is) (tracked_references stream (released other tracked)) ≡ names ∷ more
    left (inl e) =
        let mine : acknowledgments stream (Acknowledge other ∷ is) ≡ 1 + acknowledgments stream is = ap (λ n. acknowledgments stream (Acknowledge n ∷ is)) e ∙ one_acknowledged stream is in
        ap (λ n. drop (acknowledgments stream is) (tracked_references stream (released n tracked))) e
        ∙ ap (drop (acknowledgments stream is)) (released_names stream tracked)
        ∙ drop-drop (acknowledgments stream is) 1 (tracked_references stream tracked)
        ∙ ap (λ n. drop n (tracked_references stream tracked)) (sym mine)
        ∙ own
    left (inr ne) =
        ap (drop (acknowledgments stream is)) (released_others other stream tracked ne)
        ∙ ap (λ n. drop n (tracked_references stream tracked)) (sym (other_acknowledged other stream is ne))
        ∙ own
told_acknowledgment stream names more canceled known tracked (CancelStream other ∷ is) alive last h own came =
    told_acknowledgment stream names more canceled known (without_stream other tracked) is alive last.2 h (ap (drop (acknowledgments stream is)) (without_others other stream tracked far) ∙ own) came
  where
    far : other ≢ stream
    far e = let both : true ≡ false = sym last.0 ∙ ap (λ n. list_any (λ k. k == n) canceled) e ∙ alive in cc

-- The oldest section of a stream is the same with more sections behind.
count_more : (stream : ℕ) (ts us : List UnacknowledgedSection) → list_any (λ section. section.stream == stream) ts ≡ true → acknowledged_count stream (ts ++ us) ≡ acknowledged_count stream ts
count_more stream [] us some = absurd (cc)
count_more stream (t ∷ ts) us some = by_test (t.stream == stream) some (count_more stream ts us)
  where
    by_test : (b : Bool) → (b || list_any (λ section. section.stream == stream) ts) ≡ true → (list_any (λ section. section.stream == stream) ts ≡ true → acknowledged_count stream (ts ++ us) ≡ acknowledged_count stream ts)
        → (if b then fold max 0 t.references else acknowledged_count stream (ts ++ us)) ≡ (if b then fold max 0 t.references else acknowledged_count stream ts)
    by_test true k later = refl
    by_test false k later = later k

released_more : (stream : ℕ) (ts us : List UnacknowledgedSection) → list_any (λ section. section.stream == stream) ts ≡ true → released stream (ts ++ us) ≡ released stream ts ++ us
released_more stream [] us some = absurd (cc)
released_more stream (t ∷ ts) us some = by_test (t.stream == stream) some (released_more stream ts us)
  where
    by_test : (b : Bool) → (b || list_any (λ section. section.stream == stream) ts) ≡ true → (list_any (λ section. section.stream == stream) ts ≡ true → released stream (ts ++ us) ≡ released stream ts ++ us)
        → (if b then ts ++ us else t ∷ released stream (ts ++ us)) ≡ (if b then ts else t ∷ released stream ts) ++ us
    by_test true k later = refl
    by_test false k later = ap (λ vs. t ∷ vs) (later k)

-- What fits still fits once further sections are tracked.
pub told_more : (known : ℕ) (tracked more : List UnacknowledgedSection) (is : List DecoderInstruction) → AreTold known tracked is → AreTold known (tracked ++ more) is
told_more known tracked more [] h = tt
told_more known tracked more (Increment count ∷ is) h = (h.0, told_more (known + count) tracked more is h.1)
told_more known tracked more (Acknowledge stream ∷ is) h = (
  list_any-append (λ section. section.stream == stream) tracked more ∙ ap (λ b. b || list_any (λ section. section.stream == stream) more) h.0,
  omega (arith, count_more stream tracked more h.0, h.1),
  subst (λ ts. AreTold known ts is) (sym (released_more stream tracked more h.0)) (told_more known (released stream tracked) more is h.2),
)
told_more known tracked more (CancelStream stream ∷ is) h =
    subst (λ ts. AreTold known ts is) (sym (filter-append (λ section. not (section.stream == stream)) tracked more)) (told_more known (without_stream stream tracked) (without_stream stream more) is h)

-- Where acknowledgments count, one that fits raises nothing.
pub unraised : (b : Bool) (known count : ℕ) → count ≤ known → (if b then max known count else known) ≡ known
unraised true known count le = omega (arith, le)
unraised false known count le = refl
