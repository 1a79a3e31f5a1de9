-- The lines of a script, read one after the other.
use Rattle.std.proofs.Common.{◌≡◌, ℕ, ◌+◌, ◌==◌, ◌<◌, ◌≤◌, Bool, true, false, not, List, [], ◌∷◌, ◌++◌, length, take, drop, get_or, Option, Some, None, is_some, refl, sym, ◌∙◌, ap, subst, arith, append-nil, take-append-drop, sum_by, if◌then◌else◌}
use Rattle.std.specs.Borrow.{Bor}
use Rattle.std.proofs.lemmas.List.{take_more, drop_more, length-map, take_all, length-take-le}
use Rattle.std.proofs.lemmas.List.Sums.{sum_by-append, sum_by-cons}
use Rattle.h3_script.specs.Pieces.{begun, pieces, texts}
use Rattle.h3_script.specs.ScriptLine.{is_skipped, SaysSetup, SaysEvent, Denies}
use Rattle.h3_script.specs.Script.{lines_of, said, SayEvents, SaysSoFar, lines_length, IsScript, IsBeginning, IsRefused, TooFar, NoSetup, NoEvent, RefusesLine, At, Nothing, RefusesScript}
use Rattle.h3_script.specs.LineErrors.{refusal_at}
use Rattle.h3_world.specs.Setup.{Setup}
use Rattle.h3_world.specs.declared.event.Event.{Event}
use Rattle.h3_script.specs.declared.error.LineError.{LineError}
use Rattle.h3_script.specs.declared.error.LineError.TheVariants.{NoSuchLine, OutOfMemory}
use Rattle.h3_script.proofs.Fields.{word_at}

-- what holds of the lines that were read
pub record LinesSoFar (most : ℕ) (lines : List (List ℕ)) (i : ℕ) (setup : Option Setup) (events : List Event) (end : ℕ) : Type 0 where
  pub says : SaysSoFar (said (take i lines)) setup events
  pub end_is : end ≡ lines_length (take i lines)
  pub within : end ≤ most + 1

one_more : (b : Bool) (l : List ℕ) (xs ys zs : List (List ℕ)) → xs ≡ ys ++ zs → (if b then l ∷ xs else xs) ≡ (if b then l ∷ ys else ys) ++ zs
one_more true l xs ys zs h = ap (λ t. l ∷ t) h
one_more false l xs ys zs h = h

said_append : (lines : List (List ℕ)) (line : List ℕ) → said (lines ++ line ∷ []) ≡ said lines ++ said (line ∷ [])
said_append [] line = refl
said_append (l ∷ lines) line = one_more (not (is_skipped l)) l (said (lines ++ line ∷ [])) (said lines) (said (line ∷ [])) (said_append lines line)

skipped_said : (line : List ℕ) → is_skipped line ≡ true → said (line ∷ []) ≡ []
skipped_said line h = rw h refl

kept_said : (line : List ℕ) → is_skipped line ≡ false → said (line ∷ []) ≡ line ∷ []
kept_said line h = rw h refl

said_more : (lines : List (List ℕ)) (i : ℕ) (line : List ℕ) → i < length lines → get_or lines i [] ≡ line → said (take (i + 1) lines) ≡ said (take i lines) ++ said (line ∷ [])
said_more lines i line lt is = ap said (take_more lines i [] lt) ∙ said_append (take i lines) (get_or lines i []) ∙ ap (λ l. said (take i lines) ++ said (l ∷ [])) is

length_more : (lines : List (List ℕ)) (i : ℕ) (line : List ℕ) → i < length lines → get_or lines i [] ≡ line → lines_length (take (i + 1) lines) ≡ lines_length (take i lines) + (length line + 1)
length_more lines i line lt is =
    let len = λ (l : List ℕ). length l + 1 in
    ap lines_length (take_more lines i [] lt) ∙ sum_by-append len (take i lines) (get_or lines i [] ∷ [])
    ∙ ap (λ l. lines_length (take i lines) + sum_by len (l ∷ [])) is ∙ omega (arith, sum_by-cons len line [])

none_said : (lines : List (List ℕ)) (events : List Event) → SaysSoFar lines None events → (lines ≡ []) × (events ≡ [])
none_said [] [] h = (refl, refl)
none_said [] (e ∷ es) h = absurd h
none_said (l ∷ ls) events h = absurd h

some_said : (lines : List (List ℕ)) (setup : Setup) (events : List Event) → SaysSoFar lines (Some setup) events → 0 < length lines
some_said [] setup events h = absurd h
some_said (l ∷ ls) setup events h = omega arith

events_more : (lines : List (List ℕ)) (line : List ℕ) (events : List Event) (event : Event) → SayEvents lines events → SaysEvent line event → SayEvents (lines ++ line ∷ []) (events ++ event ∷ [])
events_more [] line [] event h e = (e, tt)
events_more [] line (x ∷ events) event h e = absurd h
events_more (l ∷ lines) line [] event h e = absurd h
events_more (l ∷ lines) line (x ∷ events) event h e = (h.0, events_more lines line events event h.1 e)

says_event : (lines : List (List ℕ)) (line : List ℕ) (setup : Setup) (events : List Event) (event : Event) → SaysSoFar lines (Some setup) events → SaysEvent line event
    → SaysSoFar (lines ++ line ∷ []) (Some setup) (events ++ event ∷ [])
says_event [] line setup events event h e = absurd h
says_event (l ∷ lines) line setup events event h e = (h.0, events_more lines line events event h.1 e)

says_setup : (lines : List (List ℕ)) (line : List ℕ) (setup : Setup) (events : List Event) → SaysSoFar lines None events → SaysSetup line setup
    → SaysSoFar (lines ++ line ∷ []) (Some setup) events
says_setup [] line setup [] h s = (s, tt)
says_setup [] line setup (x ∷ events) h s = absurd h
says_setup (l ∷ lines) line setup events h s = absurd h

-- where the next line stands
pub record NextLine (most : ℕ) (lines : List (List ℕ)) (i : ℕ) (line : List ℕ) (setup : Option Setup) (events : List Event) (end : ℕ) : Type 0 where
  pub so_far : LinesSoFar most lines i setup events end
  pub below : i < length lines
  pub is : get_or lines i [] ≡ line

pub next_line : (most : ℕ) (refs : List (Bor (List ℕ))) (i : ℕ) (r d : Bor (List ℕ)) (setup : Option Setup) (events : List Event) (end : ℕ) → LinesSoFar most (texts refs) i setup events end
    → i < length refs → r ≡ get_or refs i d → NextLine most (texts refs) i r.now setup events end
next_line most refs i r d setup events end h lt is =
    record { so_far = h; below = omega (arith, lt, length-map refs (λ (r : Bor (List ℕ)). r.now)); is = word_at refs i d lt ∙ ap (λ (r : Bor (List ℕ)). r.now) (sym is) }

end_more : (most i end new : ℕ) (lines : List (List ℕ)) (line : List ℕ) (setup : Option Setup) (events : List Event) → NextLine most lines i line setup events end → new ≡ end + (length line + 1)
    → new ≡ lines_length (take (i + 1) lines)
end_more most i end new lines line setup events n e = e ∙ ap (λ x. x + (length line + 1)) n.so_far.end_is ∙ sym (length_more lines i line n.below n.is)

pub line_skipped : (most i end new : ℕ) (lines : List (List ℕ)) (line : List ℕ) (setup : Option Setup) (events : List Event) → NextLine most lines i line setup events end
    → new ≡ end + (length line + 1) → new ≤ most + 1 → is_skipped line ≡ true → LinesSoFar most lines (i + 1) setup events new
line_skipped most i end new lines line setup events n e le skipped =
    let same : said (take (i + 1) lines) ≡ said (take i lines) = said_more lines i line n.below n.is ∙ ap (λ t. said (take i lines) ++ t) (skipped_said line skipped) ∙ append-nil (said (take i lines)) in
    record { says = subst (λ ls. SaysSoFar ls setup events) (sym same) n.so_far.says; end_is = end_more most i end new lines line setup events n e; within = le }

said_next : (most i end : ℕ) (lines : List (List ℕ)) (line : List ℕ) (setup : Option Setup) (events : List Event) → NextLine most lines i line setup events end
    → is_skipped line ≡ false → said (take (i + 1) lines) ≡ said (take i lines) ++ line ∷ []
said_next most i end lines line setup events n kept = said_more lines i line n.below n.is ∙ ap (λ t. said (take i lines) ++ t) (kept_said line kept)

pub line_setup : (most i end new : ℕ) (lines : List (List ℕ)) (line : List ℕ) (events : List Event) (setup : Setup) → NextLine most lines i line None events end
    → new ≡ end + (length line + 1) → new ≤ most + 1 → is_skipped line ≡ false → SaysSetup line setup → LinesSoFar most lines (i + 1) (Some setup) events new
line_setup most i end new lines line events setup n e le kept s =
    record {
      says = subst (λ ls. SaysSoFar ls (Some setup) events) (sym (said_next most i end lines line None events n kept)) (says_setup (said (take i lines)) line setup events n.so_far.says s);
      end_is = end_more most i end new lines line None events n e;
      within = le;
    }

pub line_event : (most i end new : ℕ) (lines : List (List ℕ)) (line : List ℕ) (setup : Setup) (events after : List Event) (event : Event) → NextLine most lines i line (Some setup) events end
    → new ≡ end + (length line + 1) → new ≤ most + 1 → is_skipped line ≡ false → SaysEvent line event → after ≡ events ++ event ∷ [] → LinesSoFar most lines (i + 1) (Some setup) after new
line_event most i end new lines line setup events after event n e le kept s is =
    record {
      says = subst (λ ls. SaysSoFar ls (Some setup) after) (sym (said_next most i end lines line (Some setup) events n kept))
          (subst (SaysSoFar (said (take i lines) ++ line ∷ []) (Some setup)) (sym is) (says_event (said (take i lines)) line setup events event n.so_far.says s));
      end_is = end_more most i end new lines line (Some setup) events n e;
      within = le;
    }

-- the line is the first that is refused
refused_at : (most i end : ℕ) (text : List ℕ) (lines : List (List ℕ)) (line : List ℕ) (setup : Option Setup) (events : List Event) → lines ≡ lines_of text
    → NextLine most lines i line setup events end → IsRefused most (take i lines) line → RefusesLine most text (i + 1)
refused_at most i end text lines line setup events is n refused =
    let parts : lines ≡ take i lines ++ line ∷ drop (i + 1) lines =
    sym (take-append-drop i lines) ∙ ap (λ t. take i lines ++ t) (drop_more lines i [] n.below ∙ ap (λ l. l ∷ drop (i + 1) lines) n.is) in
    At (take i lines) (drop (i + 1) lines) line (sym is ∙ parts) (omega (arith, n.below, length-take-le i lines))
    (record { setup = setup; events = events; says = n.so_far.says; within = omega (arith, n.so_far.end_is, n.so_far.within) })
    refused

pub refused_far : (most i end : ℕ) (text : List ℕ) (lines : List (List ℕ)) (line : List ℕ) (setup : Option Setup) (events : List Event) → lines ≡ lines_of text
    → NextLine most lines i line setup events end → most < end + length line → RefusesLine most text (i + 1)
refused_far most i end text lines line setup events is n far =
    refused_at most i end text lines line setup events is n (TooFar (omega (arith, far, n.so_far.end_is)))

pub refused_setup : (most i end : ℕ) (text : List ℕ) (lines : List (List ℕ)) (line : List ℕ) (events : List Event) (e : LineError) → lines ≡ lines_of text
    → NextLine most lines i line None events end → is_skipped line ≡ false → Denies ((setup : Setup) × SaysSetup line setup) e → RefusesScript most text (refusal_at (i + 1) e)
refused_setup most i end text lines line events NoSuchLine is n kept d =
    refused_at most i end text lines line None events is n (NoSetup ((none_said _ _ n.so_far.says).0) kept (λ setup s. d (setup, s)))
refused_setup most i end text lines line events OutOfMemory is n kept d = tt

pub refused_event : (most i end : ℕ) (text : List ℕ) (lines : List (List ℕ)) (line : List ℕ) (setup : Setup) (events : List Event) (e : LineError) → lines ≡ lines_of text
    → NextLine most lines i line (Some setup) events end → is_skipped line ≡ false → Denies ((event : Event) × SaysEvent line event) e → RefusesScript most text (refusal_at (i + 1) e)
refused_event most i end text lines line setup events NoSuchLine is n kept d =
    refused_at most i end text lines line (Some setup) events is n (NoEvent (some_said _ _ _ n.so_far.says) kept (λ event s. d (event, s)))
refused_event most i end text lines line setup events OutOfMemory is n kept d = tt

pub first_setup : (most i end new : ℕ) (lines : List (List ℕ)) (line : List ℕ) (before : Option Setup) (events : List Event) (setup : Setup) → is_some before ≡ false
    → NextLine most lines i line before events end → new ≡ end + (length line + 1) → new ≤ most + 1 → is_skipped line ≡ false → SaysSetup line setup
    → LinesSoFar most lines (i + 1) (Some setup) events new
first_setup most i end new lines line None events setup none n e le kept s = line_setup most i end new lines line events setup n e le kept s
first_setup most i end new lines line (Some x) events setup none n e le kept s = cc

pub next_event : (most i end new : ℕ) (lines : List (List ℕ)) (line : List ℕ) (setup : Option Setup) (events after : List Event) (event : Event) → is_some setup ≡ true
    → NextLine most lines i line setup events end → new ≡ end + (length line + 1) → new ≤ most + 1 → is_skipped line ≡ false → SaysEvent line event → after ≡ events ++ event ∷ []
    → LinesSoFar most lines (i + 1) setup after new
next_event most i end new lines line None events after event some n e le kept s is = cc
next_event most i end new lines line (Some x) events after event some n e le kept s is = line_event most i end new lines line x events after event n e le kept s is

pub first_refused : (most i end : ℕ) (text : List ℕ) (lines : List (List ℕ)) (line : List ℕ) (before : Option Setup) (events : List Event) (e : LineError) → is_some before ≡ false → lines ≡ lines_of text
    → NextLine most lines i line before events end → is_skipped line ≡ false → Denies ((setup : Setup) × SaysSetup line setup) e → RefusesScript most text (refusal_at (i + 1) e)
first_refused most i end text lines line None events e none is n kept d = refused_setup most i end text lines line events e is n kept d
first_refused most i end text lines line (Some x) events e none is n kept d = cc

pub next_refused : (most i end : ℕ) (text : List ℕ) (lines : List (List ℕ)) (line : List ℕ) (before : Option Setup) (events : List Event) (e : LineError) → is_some before ≡ true → lines ≡ lines_of text
    → NextLine most lines i line before events end → is_skipped line ≡ false → Denies ((event : Event) × SaysEvent line event) e → RefusesScript most text (refusal_at (i + 1) e)
next_refused most i end text lines line None events e some is n kept d = cc
next_refused most i end text lines line (Some x) events e some is n kept d = refused_event most i end text lines line x events e is n kept d

-- the lines have the text's bytes, and one more
begun_length : (b : ℕ) (ps : List (List ℕ)) → 0 < length ps → lines_length (begun b ps) ≡ lines_length ps + 1
begun_length b [] some = absurd (omega (arith, some))
begun_length b (p ∷ ps) some = omega (arith, sum_by-cons (λ (l : List ℕ). length l + 1) (b ∷ p) ps, sum_by-cons (λ (l : List ℕ). length l + 1) p ps)

either_some : (b : Bool) (xs ys : List (List ℕ)) → 0 < length xs → 0 < length ys → 0 < length (if b then xs else ys)
either_some true xs ys p q = p
either_some false xs ys p q = q

begun_some : (b : ℕ) (ps : List (List ℕ)) → 0 < length (begun b ps)
begun_some b [] = omega arith
begun_some b (p ∷ ps) = omega arith

pieces_some : (at : ℕ) (text : List ℕ) → 0 < length (pieces at text)
pieces_some at [] = omega arith
pieces_some at (b ∷ text) = either_some (b == at) ([] ∷ pieces at text) (begun b (pieces at text)) (omega arith) (begun_some b (pieces at text))

either_length : (b : Bool) (xs ys : List (List ℕ)) (n : ℕ) → lines_length xs ≡ n → lines_length ys ≡ n → lines_length (if b then xs else ys) ≡ n
either_length true xs ys n p q = p
either_length false xs ys n p q = q

pub pieces_length : (at : ℕ) (text : List ℕ) → lines_length (pieces at text) ≡ length text + 1
pieces_length at [] = omega (arith, sum_by-cons (λ (l : List ℕ). length l + 1) [] [])
pieces_length at (b ∷ text) =
    let more = pieces_length at text in
    either_length (b == at) ([] ∷ pieces at text) (begun b (pieces at text)) (length (b ∷ text) + 1)
    (omega (arith, sum_by-cons (λ (l : List ℕ). length l + 1) [] (pieces at text), more)) (omega (arith, begun_length b (pieces at text) (pieces_some at text), more))

-- all lines were read
pub refused_empty : (most i end : ℕ) (text : List ℕ) (lines : List (List ℕ)) (before : Option Setup) (events : List Event) → lines ≡ lines_of text → length lines ≤ i
    → LinesSoFar most lines i before events end → before ≡ None → RefusesLine most text 1
refused_empty most i end text lines before events is all h none =
    let whole : take i lines ≡ lines_of text = take_all i lines all ∙ is in
    let nothing_said = none_said (said (take i lines)) events (subst (λ s. SaysSoFar (said (take i lines)) s events) none h.says) in
    Nothing (ap said (sym whole) ∙ nothing_said.0) (omega (arith, h.end_is, h.within, ap lines_length whole, pieces_length 10 text)) refl

pub script_read : (most i end : ℕ) (text : List ℕ) (lines : List (List ℕ)) (before : Option Setup) (setup : Setup) (events : List Event) → lines ≡ lines_of text → length lines ≤ i
    → LinesSoFar most lines i before events end → before ≡ Some setup → IsScript most text setup events
script_read most i end text lines before setup events is all h some =
    let whole : take i lines ≡ lines_of text = take_all i lines all ∙ is in
    record {
      says = subst (λ s. SaysSoFar (said (lines_of text)) s events) some (subst (λ ls. SaysSoFar (said ls) before events) whole h.says);
      within = omega (arith, h.end_is, h.within, ap lines_length whole, pieces_length 10 text);
    }

-- what an index past the end gives
abbrev pub nothing : Bor (List ℕ)
nothing = record { ref_ptr = (0, 0); now = [] }

-- a line behind others is an event's where all are
event_of : (before rest : List (List ℕ)) (line : List ℕ) (events : List Event) → SayEvents (before ++ line ∷ rest) events → (event : Event) × SaysEvent line event
event_of [] rest line [] h = absurd h
event_of [] rest line (e ∷ events) h = (e, h.0)
event_of (b ∷ before) rest line [] h = absurd h
event_of (b ∷ before) rest line (e ∷ events) h = event_of before rest line events h.1

pub said_parts : (before after : List (List ℕ)) → said (before ++ after) ≡ said before ++ said after
said_parts [] after = refl
said_parts (b ∷ before) after = one_more (not (is_skipped b)) b (said (before ++ after)) (said before) (said after) (said_parts before after)

said_kept : (line : List ℕ) (after : List (List ℕ)) → is_skipped line ≡ false → said (line ∷ after) ≡ line ∷ said after
said_kept line after h = rw h refl

pub said_at : (lines before after : List (List ℕ)) (line : List ℕ) → lines ≡ before ++ line ∷ after → is_skipped line ≡ false → said lines ≡ said before ++ line ∷ said after
said_at lines before after line is kept = ap said is ∙ said_parts before (line ∷ after) ∙ ap (λ t. said before ++ t) (said_kept line after kept)

first_says : (before after : List (List ℕ)) (line : List ℕ) (setup : Option Setup) (events : List Event) → before ≡ [] → SaysSoFar (before ++ line ∷ after) setup events → (made : Setup) × SaysSetup line made
first_says [] after line None events e h = absurd h
first_says [] after line (Some made) events e h = (made, h.0)
first_says (b ∷ before) after line setup events e h = cc

later_says : (before after : List (List ℕ)) (line : List ℕ) (setup : Option Setup) (events : List Event) → 0 < length before → SaysSoFar (before ++ line ∷ after) setup events → (event : Event) × SaysEvent line event
later_says [] after line setup events some h = absurd (omega (arith, some))
later_says (b ∷ before) after line None events some h = absurd h
later_says (b ∷ before) after line (Some made) events some h = event_of before after line events h.1

-- no line of the beginning of a script is refused
pub not_refused_in : (most : ℕ) (lines before after : List (List ℕ)) (line : List ℕ) → IsBeginning most lines → lines ≡ before ++ line ∷ after → IsRefused most before line → ⊥
not_refused_in most lines before after line b is (TooFar far) =
    let len = λ (l : List ℕ). length l + 1 in
    omega (arith, far, b.within, ap lines_length is, sum_by-append len before (line ∷ after), sum_by-cons len line after)
not_refused_in most lines before after line b is (NoSetup none kept refutes) =
    let made = first_says (said before) (said after) line b.setup b.events none (subst (λ ls. SaysSoFar ls b.setup b.events) (said_at lines before after line is kept) b.says) in
    refutes made.0 made.1
not_refused_in most lines before after line b is (NoEvent some kept refutes) =
    let e = later_says (said before) (said after) line b.setup b.events some (subst (λ ls. SaysSoFar ls b.setup b.events) (said_at lines before after line is kept) b.says) in
    refutes e.0 e.1

-- no script has a line that is refused
pub not_refused : (most : ℕ) (text : List ℕ) (setup : Setup) (events : List Event) (number : ℕ) → IsScript most text setup events → RefusesLine most text number → ⊥
not_refused most text setup events number s (At before after line is place begin refused) =
    let begins : IsBeginning most (lines_of text) = record { setup = Some setup; events = events; says = s.says; within = omega (arith, s.within, pieces_length 10 text) } in
    not_refused_in most (lines_of text) before after line begins is refused
not_refused most text setup events number s (Nothing none within one) = subst (λ ls. SaysSoFar ls (Some setup) events) none s.says
