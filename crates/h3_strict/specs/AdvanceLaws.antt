-- What a step changes of what a flow tells of what was sent and handed out.
use Rattle.std.proofs.Common.{◌≡◌, Bool, true, false, List, [], ◌∷◌, ◌++◌, append_assoc, append-nil, refl, ap, sym, ◌∙◌, subst}
use Rattle.std.proofs.lemmas.List.{map-append}
use Rattle.std.specs.Prelude.{◌||◌, is_some, map}
use Rattle.h3_world.specs.Flow.{Flow}
use Rattle.h3_world.specs.Order.{is_over}
use Rattle.h3_headline.specs.ContentLaws.{all_joined, front_of_all, stays}
use Rattle.h3_headline.specs.Contents.{HasSameParts, Moves, contents, has_end, out, out_of}
use Rattle.h3_headline.specs.Exactly.{IsAllOf, IsExactly, Reader, as_listed}
use Rattle.h3_headline.specs.Messages.{IsFrontOf, MessageContent}
use Rattle.h3_strict.specs.Accounts.{Accounts, Advances, Quiet}

pub quiet_none : (f : Flow) → Quiet f [] false
quiet_none f = record { none = λ e. refl; no_end = λ e. refl }

-- what is out of more is a front of it too
pub front_more : (r : Reader) (given front rest : List MessageContent) → IsFrontOf (IsExactly r) given front → IsFrontOf (IsExactly r) given (front ++ rest)
front_more r [] front rest h = tt
front_more r (c ∷ given) (d ∷ front) rest h = (h.0, front_more r given front rest h.1)
front_more r (c ∷ given) [] rest h = absurd h

all_front : (r : Reader) (given sent : List MessageContent) → IsAllOf (IsExactly r) given sent → IsFrontOf (IsExactly r) given sent
all_front r given sent h = subst (IsFrontOf (IsExactly r) given) (append-nil sent) (front_of_all r given sent [] h)

or_second : (a b : Bool) → b ≡ true → (a || b) ≡ true
or_second true b h = refl
or_second false b h = h

-- **A step moves it on.**
pub advances : (r : Reader) (f g : Flow) (t : List MessageContent) (b : Bool) (q : List MessageContent) (d : Bool) → Moves r f g t b q d → Quiet f q d → (is_some g.fault ≡ false → is_some f.fault ≡ false) → Advances r f g t b q d
advances r f g t b q d m quiet stayed s a p c acc =
    record {
      sent_is = m.sent_is ∙ ap (λ l. l ++ map as_listed t) acc.sent_is ∙ sym (map-append as_listed s t);
      end_is = m.end_is ∙ ap (λ x. x || b) acc.end_is;
      front = by_fault (is_some f.fault) refl;
      alive = λ e. all_then (acc.alive (stayed e));
      over_is = λ e. over c d refl refl e;
    }
  where
    all_then : IsAllOf (IsExactly r) p (out f) → IsAllOf (IsExactly r) (p ++ q) (out g)
    all_then h = subst (IsAllOf (IsExactly r) (p ++ q)) (sym m.hands.more) (all_joined r p (out f) q m.hands.came h m.hands.is)

    by_fault : (x : Bool) → is_some f.fault ≡ x → IsFrontOf (IsExactly r) (p ++ q) (out g)
    by_fault false e = all_front r (p ++ q) (out g) (all_then (acc.alive e))
    by_fault true e =
        subst (λ l. IsFrontOf (IsExactly r) l (out g)) (sym (append-nil p) ∙ ap (λ l. p ++ l) (sym (quiet.none e)))
        (subst (IsFrontOf (IsExactly r) p) (sym m.hands.more) (front_more r p (out f) m.hands.came acc.front))

    by_alive : (x : Bool) → is_some f.fault ≡ x → d ≡ true → (is_over g ≡ true) × IsAllOf (IsExactly r) (p ++ q) (out g)
    by_alive false e k = (m.over_is (or_second (is_over f) d k), all_then (acc.alive e))
    by_alive true e k = absurd (let never : true ≡ false = sym k ∙ quiet.no_end e in cc)

    over : (x y : Bool) → c ≡ x → d ≡ y → (x || y) ≡ true → (is_over g ≡ true) × IsAllOf (IsExactly r) (p ++ q) (out g)
    over true y e k h =
        let o = acc.over_is e in
        (m.over_is (ap (λ z. z || d) o.0), all_then o.1)
    over false true e k h = by_alive (is_some f.fault) refl k
    over false false e k h = absurd (cc)

-- A flow is given up, behind a part that was handed to nobody.
pub gives_up_on : (r : Reader) (f m g : Flow) (q : List MessageContent) (d : Bool) → Moves r f m [] false q d → HasSameParts m g → is_some g.fault ≡ true → is_over f ≡ false → Advances r f g [] false [] false
gives_up_on r f m g q d moves same gone not_over s a p c acc =
    record {
      sent_is = ap contents same.sent ∙ moves.sent_is ∙ ap (λ l. l ++ []) acc.sent_is ∙ sym (map-append as_listed s []);
      end_is = ap has_end same.sent ∙ moves.end_is ∙ ap (λ x. x || false) acc.end_is;
      front = subst (λ l. IsFrontOf (IsExactly r) l (out g)) (sym (append-nil p)) (subst (IsFrontOf (IsExactly r) p) (sym (same_out ∙ moves.hands.more)) (front_more r p (out f) moves.hands.came acc.front));
      alive = λ e. absurd (let never : true ≡ false = sym gone ∙ e in cc);
      over_is = λ e. over c refl e;
    }
  where
    same_out : out g ≡ out m
    same_out = ap (λ l. out_of l g.parts_out g.body_out) same.sent ∙ ap (λ n. out_of m.sent n g.body_out) same.parts_out ∙ ap (out_of m.sent m.parts_out) same.body_out

    over : (x : Bool) → c ≡ x → (x || false) ≡ true → (is_over g ≡ true) × IsAllOf (IsExactly r) (p ++ []) (out g)
    over true e h = absurd (let never : true ≡ false = sym (acc.over_is e).0 ∙ not_over in cc)
    over false e h = absurd (cc)

-- nothing is sent or handed out, and no flow is given up
pub keeps : (r : Reader) (f : Flow) → Advances r f f [] false [] false
keeps r f = advances r f f [] false [] false (stays r f f false (record { sent = refl; parts_out = refl; body_out = refl }) (λ e. absurd (let never : false ≡ true = e in cc))) (quiet_none f) (λ e. e)

or_assoc : (a b c : Bool) → ((a || b) || c) ≡ (a || (b || c))
or_assoc true b c = refl
or_assoc false b c = refl

-- one after the other
pub advances_then : (r : Reader) (f g h : Flow) (s t : List MessageContent) (a b : Bool) (p q : List MessageContent) (c d : Bool) → Advances r f g s a p c → Advances r g h t b q d → Advances r f h (s ++ t) (a || b) (p ++ q) (c || d)
advances_then r f g h s t a b p q c d first later before had_end handed ended acc =
    let x = later (before ++ s) (had_end || a) (handed ++ p) (ended || c) (first before had_end handed ended acc) in
    subst (λ y. Accounts r h (before ++ (s ++ t)) (had_end || (a || b)) (handed ++ (p ++ q)) y) (or_assoc ended c d)
    (subst (λ y. Accounts r h (before ++ (s ++ t)) (had_end || (a || b)) y ((ended || c) || d)) (append_assoc handed p q)
    (subst (λ y. Accounts r h (before ++ (s ++ t)) y ((handed ++ p) ++ q) ((ended || c) || d)) (or_assoc had_end a b)
    (subst (λ y. Accounts r h y ((had_end || a) || b) ((handed ++ p) ++ q) ((ended || c) || d)) (append_assoc before s t) x)))

-- the same, by what the step is said to send and hand out
pub says : (r : Reader) (f g : Flow) (s t : List MessageContent) (a b : Bool) (p q : List MessageContent) (c d : Bool) → s ≡ t → a ≡ b → p ≡ q → c ≡ d → Advances r f g s a p c → Advances r f g t b q d
says r f g s t a b p q c d is fin handed ended h =
    subst (λ y. Advances r f g t b q y) ended (subst (λ y. Advances r f g t b y c) handed (subst (λ y. Advances r f g t y p c) fin (subst (λ y. Advances r f g y a p c) is h)))
