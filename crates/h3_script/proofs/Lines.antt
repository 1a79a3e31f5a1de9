-- Words that are none of a kind.
use Rattle.std.proofs.Common.{◌≡◌, ℕ, ◌<◌, ◌≤◌, Bool, true, false, List, [], ◌∷◌, length, drop, get_or, codes, bytes_eq, Option, Some, None, option_and_then, refl, sym, ◌∙◌, subst, arith, if◌then◌else◌}
use Rattle.std.proofs.lemmas.Slice.Eq.{bytes_eq-Decides}
use Rattle.std.specs.Borrow.{Bor}
use Rattle.h3_script.specs.Pieces.{texts}
use Rattle.h3_header.specs.Head.{Head as Fields}
use Rattle.h3_proto.specs.declared.stream.Side.{Side}
use Rattle.h3_script.specs.Words.{number_of, id_of, side_of}
use Rattle.h3_script.specs.HeadText.{IsHeadText, IsTrailerText}
use Rattle.h3_script.specs.ScriptLine.{setup_by, setup_of, side_event, number_by, deliver_by, short_event, IsSectionEvent, SaysWords}
use Rattle.h3_world.specs.declared.event.Event.{Event}
use Rattle.h3_world.specs.declared.event.Event.TheVariants as does

-- no line is so short
pub none_few : (ws : List (Bor (List ℕ))) → length ws < 2 → None ≡ short_event (texts ws)
none_few [] h = refl
none_few (a ∷ []) h = refl
none_few (a ∷ b ∷ ws) h = absurd (omega (arith, h))

-- nor so long
pub none_many : (ws : List (Bor (List ℕ))) → 5 ≤ length ws → None ≡ short_event (texts ws)
none_many [] h = absurd (omega (arith, h))
none_many (w ∷ []) h = absurd (omega (arith, h))
none_many (w ∷ x ∷ []) h = absurd (omega (arith, h))
none_many (w ∷ x ∷ y ∷ []) h = absurd (omega (arith, h))
none_many (w ∷ x ∷ y ∷ z ∷ []) h = absurd (omega (arith, h))
none_many (w ∷ x ∷ y ∷ z ∷ v ∷ ws) h = refl

-- a setup has seven words
pub no_setup : (ws : List (Bor (List ℕ))) → (length ws ≡ 7 → ⊥) → None ≡ setup_of (texts ws)
no_setup [] h = refl
no_setup (a ∷ []) h = refl
no_setup (a ∷ b ∷ []) h = refl
no_setup (a ∷ b ∷ c ∷ []) h = refl
no_setup (a ∷ b ∷ c ∷ d ∷ []) h = refl
no_setup (a ∷ b ∷ c ∷ d ∷ e ∷ []) h = refl
no_setup (a ∷ b ∷ c ∷ d ∷ e ∷ f ∷ []) h = refl
no_setup (a ∷ b ∷ c ∷ d ∷ e ∷ f ∷ g ∷ []) h = absurd (h refl)
no_setup (a ∷ b ∷ c ∷ d ∷ e ∷ f ∷ g ∷ i ∷ ws) h = refl

-- seven words without the command
pub setup_unnamed : (ws : List (Bor (List ℕ))) (d : Bor (List ℕ)) → length ws ≡ 7 → bytes_eq (get_or ws 0 d).now (codes "config") ≡ false → None ≡ setup_of (texts ws)
setup_unnamed [] w seven is = absurd (omega (arith, seven))
setup_unnamed (a ∷ []) w seven is = absurd (omega (arith, seven))
setup_unnamed (a ∷ b ∷ []) w seven is = absurd (omega (arith, seven))
setup_unnamed (a ∷ b ∷ c ∷ []) w seven is = absurd (omega (arith, seven))
setup_unnamed (a ∷ b ∷ c ∷ d ∷ []) w seven is = absurd (omega (arith, seven))
setup_unnamed (a ∷ b ∷ c ∷ d ∷ e ∷ []) w seven is = absurd (omega (arith, seven))
setup_unnamed (a ∷ b ∷ c ∷ d ∷ e ∷ f ∷ []) w seven is = absurd (omega (arith, seven))
setup_unnamed (a ∷ b ∷ c ∷ d ∷ e ∷ f ∷ g ∷ []) w seven is = rw is refl
setup_unnamed (a ∷ b ∷ c ∷ d ∷ e ∷ f ∷ g ∷ h ∷ ws) w seven is = absurd (omega (arith, seven))

-- the command and six numbers
pub setup_read : (ws : List (Bor (List ℕ))) (d : Bor (List ℕ)) (i j k l m n : Option ℕ) → length ws ≡ 7 → bytes_eq (get_or ws 0 d).now (codes "config") ≡ true
    → i ≡ number_of (get_or ws 1 d).now → j ≡ number_of (get_or ws 2 d).now → k ≡ number_of (get_or ws 3 d).now → l ≡ number_of (get_or ws 4 d).now
    → m ≡ number_of (get_or ws 5 d).now → n ≡ number_of (get_or ws 6 d).now → setup_by i j k l m n ≡ setup_of (texts ws)
setup_read [] w i j k l m n seven is p q r s t u = absurd (omega (arith, seven))
setup_read (a ∷ []) w i j k l m n seven is p q r s t u = absurd (omega (arith, seven))
setup_read (a ∷ b ∷ []) w i j k l m n seven is p q r s t u = absurd (omega (arith, seven))
setup_read (a ∷ b ∷ c ∷ []) w i j k l m n seven is p q r s t u = absurd (omega (arith, seven))
setup_read (a ∷ b ∷ c ∷ d ∷ []) w i j k l m n seven is p q r s t u = absurd (omega (arith, seven))
setup_read (a ∷ b ∷ c ∷ d ∷ e ∷ []) w i j k l m n seven is p q r s t u = absurd (omega (arith, seven))
setup_read (a ∷ b ∷ c ∷ d ∷ e ∷ f ∷ []) w i j k l m n seven is p q r s t u = absurd (omega (arith, seven))
setup_read (a ∷ b ∷ c ∷ d ∷ e ∷ f ∷ g ∷ []) w i j k l m n seven is p q r s t u = rw (is, p, q, r, s, t, u) refl
setup_read (a ∷ b ∷ c ∷ d ∷ e ∷ f ∷ g ∷ h ∷ ws) w i j k l m n seven is p q r s t u = absurd (omega (arith, seven))

-- no event of a line with a side and numbers alone sends a head, a trailer or a piece of a body
IsShort : Option Event → Type 0
IsShort None = Unit {0}
IsShort (Some (does.Head side id head)) = ⊥
IsShort (Some (does.Fields side id fields)) = ⊥
IsShort (Some (does.Body side id bytes)) = ⊥
IsShort (Some (does.Trailer side id trailer)) = ⊥
IsShort (Some (does.TrailerFields side id fields)) = ⊥
IsShort (Some _) = Unit {0}

-- the first event whose test holds
first_of : List (Bool × Event) → Option Event
first_of [] = None
first_of (e ∷ rest) = if e.0 then Some e.1 else first_of rest

AllShort : List (Bool × Event) → Type 0
AllShort [] = Unit {0}
AllShort (e ∷ rest) = IsShort (Some e.1) × AllShort rest

short_if : (b : Bool) (x y : Option Event) → IsShort x → IsShort y → IsShort (if b then x else y)
unfolding IsShort
short_if true x y h k = h
short_if false x y h k = k

short_first : (events : List (Bool × Event)) → AllShort events → IsShort (first_of events)
unfolding IsShort first_of AllShort
short_first [] h = tt
short_first (e ∷ rest) h = short_if e.0 (Some e.1) (first_of rest) h.0 (short_first rest h.1)

short_side : (command : List ℕ) (side : Option Side) → IsShort (option_and_then (side_event command) side)
unfolding IsShort first_of AllShort
short_side command None = tt
short_side command (Some side) =
    short_first ((bytes_eq command (codes "open"), does.OpenRequest side) ∷ (bytes_eq command (codes "show"), does.Show side) ∷ []) (tt, (tt, tt))

short_number : (command : List ℕ) (side : Option Side) (number : Option ℕ) → IsShort (number_by command side number)
unfolding IsShort first_of AllShort
short_number command None number = tt
short_number command (Some side) None = tt
short_number command (Some side) (Some number) =
    short_first (
    (bytes_eq command (codes "finish"), does.Finish side number) ∷
    (bytes_eq command (codes "reset"), does.Reset side number) ∷
    (bytes_eq command (codes "cancel"), does.Cancel side number) ∷
    (bytes_eq command (codes "pull"), does.Pull side number) ∷
    (bytes_eq command (codes "pulls"), does.PullFields side number) ∷
    (bytes_eq command (codes "end"), does.DeliverEnd side number) ∷
    (bytes_eq command (codes "gone"), does.DeliverReset side number) ∷
    (bytes_eq command (codes "goaway"), does.Goaway side number) ∷
    []
    ) (tt, (tt, (tt, (tt, (tt, (tt, (tt, (tt, tt))))))))

short_deliver : (command : List ℕ) (side : Option Side) (id count : Option ℕ) → IsShort (deliver_by command side id count)
unfolding IsShort
short_deliver command None id count = tt
short_deliver command (Some side) None count = tt
short_deliver command (Some side) (Some id) None = tt
short_deliver command (Some side) (Some id) (Some count) = short_if (bytes_eq command (codes "deliver")) (Some (does.Deliver side id count)) None tt tt

is_short : (ws : List (List ℕ)) → IsShort (short_event ws)
unfolding IsShort
is_short [] = tt
is_short (w ∷ []) = tt
is_short (w ∷ s ∷ []) = short_side w (side_of s)
is_short (w ∷ s ∷ i ∷ []) = short_number w (side_of s) (id_of i)
is_short (w ∷ s ∷ i ∷ n ∷ []) = short_deliver w (side_of s) (id_of i) (number_of n)
is_short (w ∷ s ∷ i ∷ n ∷ v ∷ ws) = tt

-- the event of a short line
pub short_says : (ws : List (List ℕ)) (e : Event) → Some e ≡ short_event ws → SaysWords ws e
unfolding IsShort
short_says ws (does.OpenRequest side) h = sym h
short_says ws (does.Head side id head) h = absurd (subst IsShort (sym h) (is_short ws))
short_says ws (does.Fields side id fields) h = absurd (subst IsShort (sym h) (is_short ws))
short_says ws (does.Body side id bytes) h = absurd (subst IsShort (sym h) (is_short ws))
short_says ws (does.Trailer side id trailer) h = absurd (subst IsShort (sym h) (is_short ws))
short_says ws (does.TrailerFields side id fields) h = absurd (subst IsShort (sym h) (is_short ws))
short_says ws (does.Finish side id) h = sym h
short_says ws (does.Reset side id) h = sym h
short_says ws (does.Cancel side id) h = sym h
short_says ws (does.Goaway side number) h = sym h
short_says ws (does.Deliver side id count) h = sym h
short_says ws (does.DeliverEnd side id) h = sym h
short_says ws (does.DeliverReset side id) h = sym h
short_says ws (does.Pull side id) h = sym h
short_says ws (does.PullFields side id) h = sym h
short_says ws (does.Show side) h = sym h

-- a word is one command
pub one_command : (word x y : List ℕ) → bytes_eq word x ≡ true → bytes_eq word y ≡ true → x ≡ y
one_command word x y h k = sym ((bytes_eq-Decides word x).0 h) ∙ (bytes_eq-Decides word y).0 k

section_head : (a b c : List ℕ) (words : List (List ℕ)) → bytes_eq a (codes "head") ≡ true → ((e : Event) × IsSectionEvent (a ∷ b ∷ c ∷ words) e) → (head : Fields) × IsHeadText words head
section_head a b c words is (does.OpenRequest side, h) = absurd h
section_head a b c words is (does.Head side id head, h) = (head, h.section_is)
section_head a b c words is (does.Fields side id fields, h) = absurd h
section_head a b c words is (does.Body side id bytes, h) = absurd h
section_head a b c words is (does.Trailer side id trailer, h) = let no : codes "head" ≡ codes "trailer" = one_command a _ _ is h.command_is in cc
section_head a b c words is (does.TrailerFields side id fields, h) = absurd h
section_head a b c words is (does.Finish side id, h) = absurd h
section_head a b c words is (does.Reset side id, h) = absurd h
section_head a b c words is (does.Cancel side id, h) = absurd h
section_head a b c words is (does.Goaway side number, h) = absurd h
section_head a b c words is (does.Deliver side id count, h) = absurd h
section_head a b c words is (does.DeliverEnd side id, h) = absurd h
section_head a b c words is (does.DeliverReset side id, h) = absurd h
section_head a b c words is (does.Pull side id, h) = absurd h
section_head a b c words is (does.PullFields side id, h) = absurd h
section_head a b c words is (does.Show side, h) = absurd h

section_trailer : (a b c : List ℕ) (words : List (List ℕ)) → bytes_eq a (codes "head") ≡ false → ((e : Event) × IsSectionEvent (a ∷ b ∷ c ∷ words) e) → (trailer : Fields) × IsTrailerText words trailer
section_trailer a b c words is (does.OpenRequest side, h) = absurd h
section_trailer a b c words is (does.Head side id head, h) = let no : true ≡ false = sym h.command_is ∙ is in cc
section_trailer a b c words is (does.Fields side id fields, h) = absurd h
section_trailer a b c words is (does.Body side id bytes, h) = absurd h
section_trailer a b c words is (does.Trailer side id trailer, h) = (trailer, h.section_is)
section_trailer a b c words is (does.TrailerFields side id fields, h) = absurd h
section_trailer a b c words is (does.Finish side id, h) = absurd h
section_trailer a b c words is (does.Reset side id, h) = absurd h
section_trailer a b c words is (does.Cancel side id, h) = absurd h
section_trailer a b c words is (does.Goaway side number, h) = absurd h
section_trailer a b c words is (does.Deliver side id count, h) = absurd h
section_trailer a b c words is (does.DeliverEnd side id, h) = absurd h
section_trailer a b c words is (does.DeliverReset side id, h) = absurd h
section_trailer a b c words is (does.Pull side id, h) = absurd h
section_trailer a b c words is (does.PullFields side id, h) = absurd h
section_trailer a b c words is (does.Show side, h) = absurd h

-- the head in the words of a line that sends one
pub head_in : (refs : List (Bor (List ℕ))) (d : Bor (List ℕ)) (rest : List (Bor (List ℕ))) → 3 ≤ length refs → rest ≡ drop 3 refs → bytes_eq (get_or refs 0 d).now (codes "head") ≡ true
    → ((e : Event) × IsSectionEvent (texts refs) e) → (head : Fields) × IsHeadText (texts rest) head
head_in [] d rest few drops is h = absurd (omega (arith, few))
head_in (a ∷ []) d rest few drops is h = absurd (omega (arith, few))
head_in (a ∷ b ∷ []) d rest few drops is h = absurd (omega (arith, few))
head_in (a ∷ b ∷ c ∷ refs) d rest few drops is h = rw drops (section_head a.now b.now c.now (texts refs) is h)

-- the trailer in the words of a line that sends one
pub trailer_in : (refs : List (Bor (List ℕ))) (d : Bor (List ℕ)) (rest : List (Bor (List ℕ))) → 3 ≤ length refs → rest ≡ drop 3 refs → bytes_eq (get_or refs 0 d).now (codes "head") ≡ false
    → ((e : Event) × IsSectionEvent (texts refs) e) → (trailer : Fields) × IsTrailerText (texts rest) trailer
trailer_in [] d rest few drops is h = absurd (omega (arith, few))
trailer_in (a ∷ []) d rest few drops is h = absurd (omega (arith, few))
trailer_in (a ∷ b ∷ []) d rest few drops is h = absurd (omega (arith, few))
trailer_in (a ∷ b ∷ c ∷ refs) d rest few drops is h = rw drops (section_trailer a.now b.now c.now (texts refs) is h)
