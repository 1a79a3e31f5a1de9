-- What a flow takes next, by its contents (RFC 9114, section 4.1).
use Rattle.std.proofs.Common.{◌≡◌, ◌⊎◌, inl, inr, ℕ, Bool, true, false, List, [], ◌∷◌, ◌++◌, refl, ap, ◌∙◌, Option, Some, None}
use Rattle.std.specs.Prelude.{not, ◌&&◌, ◌||◌, map, flat_map}
use Rattle.std.specs.List.{list_any}
use Rattle.h3_connection.specs.Outgoing.{OwnPart, is_unended, is_unsent, last_is_trailer, takes_body, takes_end, takes_head}
use Rattle.h3_connection.specs.Outgoing as own
use Rattle.h3_world.specs.Flow.{Flow, Part, own_part}
use Rattle.h3_world.specs.Flow.Part.{Interim, Head, Body, Trailer, End}
use Rattle.h3_world.specs.Order.{is_end, last_part, outgoing_of}
use Rattle.h3_world.specs.Sound.{AreSent, IsSoundFlow, is_before_head, is_in_body}
use Rattle.h3_world.specs.Sound as sound
use Rattle.h3_world.specs.World.{Party}
use Rattle.h3_headline.specs.Contents.{contents, has_end}
use Rattle.h3_headline.specs.Messages.{MessageContent}
use Rattle.h3_headline.specs.Messages.MessageContent.{Byte}
use Rattle.h3_faithful.specs.Sends.{is_between, is_head_section, is_trailer_section}

-- behind these contents a header section may come
abbrev pub awaits_head : List MessageContent → Bool
awaits_head before = not (list_any is_head_section before)

-- tests and their parts
pub none_of : (a b : Bool) → (a || b) ≡ false → (a ≡ false) × (b ≡ false)
none_of true b h = absurd (cc)
none_of false b h = (refl, h)

pub three_of : (a b c : Bool) → (a && b && c) ≡ true → (a ≡ true) × (b ≡ true) × (c ≡ true)
three_of true true c h = (refl, refl, h)
three_of true false c h = absurd (cc)
three_of false b c h = absurd (cc)

pub both_of : (a b : Bool) → (a && b) ≡ true → (a ≡ true) × (b ≡ true)
both_of true b h = (refl, h)
both_of false b h = absurd (cc)

pub opposite : (a : Bool) → not a ≡ true → a ≡ false
opposite true h = cc
opposite false h = refl

pub both_hold : (a b : Bool) → a ≡ true → b ≡ true → (a && b) ≡ true
both_hold true b h k = k
both_hold false b h k = cc

-- no end was sent, and no reset cut it off
last_end : (parts : List Part) → has_end parts ≡ false → is_end (last_part parts) ≡ false
last_end [] h = refl
last_end (p ∷ []) h = (none_of (is_end (Some p)) false h).0
last_end (p ∷ q ∷ ps) h = last_end (q ∷ ps) (none_of (is_end (Some p)) (has_end (q ∷ ps)) h).1

unended : (f : Flow) → f.is_reset ≡ false → has_end f.sent ≡ false → is_unended (outgoing_of f) ≡ true
unended f live goes = ap (λ r. not (not r && is_end (last_part f.sent)) && not r) live ∙ ap (λ e. not e && true) (last_end f.sent goes)

-- where a header section may come nothing of a body or a trailer stands in front
not_in_body : (before : Option Part) → is_before_head before ≡ true → is_in_body before ≡ true → ⊥
not_in_body None h k = cc
not_in_body (Some (Interim s)) h k = cc
not_in_body (Some (Head s)) h k = cc
not_in_body (Some (Body bytes length)) h k = cc
not_in_body (Some (Trailer s)) h k = cc
not_in_body (Some End) h k = cc

not_trailer : (before : Option Part) → is_before_head before ≡ true → sound.is_trailer before ≡ true → ⊥
not_trailer None h k = cc
not_trailer (Some (Interim s)) h k = cc
not_trailer (Some (Head s)) h k = cc
not_trailer (Some (Body bytes length)) h k = cc
not_trailer (Some (Trailer s)) h k = cc
not_trailer (Some End) h k = cc

not_end : (before : Option Part) → is_before_head before ≡ true → (is_in_body before ≡ true) ⊎ (sound.is_trailer before ≡ true) → ⊥
not_end before h (inl body) = not_in_body before h body
not_end before h (inr trailer) = not_trailer before h trailer

unsent : (p : Party) (before : Option Part) (n : ℕ) (parts : List Part) → is_before_head before ≡ true → AreSent p before n parts → list_any is_head_section (contents parts) ≡ false → is_unsent (flat_map own_part parts) ≡ true
unsent p before n [] first h none = refl
unsent p before n (Interim s ∷ parts) first h none = unsent p (Some (Interim s)) _ parts refl h.2 none
unsent p before n (Head s ∷ parts) first h none = absurd (cc)
unsent p before n (Body bytes length ∷ parts) first h none = absurd (not_in_body before first h.0)
unsent p before n (Trailer s ∷ parts) first h none = absurd (not_in_body before first h.0)
unsent p before n (End ∷ parts) first h none = absurd (not_end before first h.0)

-- behind a header section none may come
sent_head : (parts : List Part) → list_any is_head_section (contents parts) ≡ true → is_unsent (flat_map own_part parts) ≡ false
sent_head [] h = cc
sent_head (Interim s ∷ parts) h = sent_head parts h
sent_head (Head s ∷ parts) h = refl
sent_head (Body bytes length ∷ parts) h = refl
sent_head (Trailer s ∷ parts) h = refl
sent_head (End ∷ parts) h = sent_head parts h

-- without a trailer the last part is none
behind_bytes : (bytes : List ℕ) (rest : List MessageContent) → list_any is_trailer_section (map Byte bytes ++ rest) ≡ false → list_any is_trailer_section rest ≡ false
behind_bytes [] rest h = h
behind_bytes (b ∷ bytes) rest h = behind_bytes bytes rest h

no_trailer : (parts : List Part) → list_any is_trailer_section (contents parts) ≡ false → list_any own.is_trailer (flat_map own_part parts) ≡ false
no_trailer [] h = refl
no_trailer (Interim s ∷ parts) h = no_trailer parts h
no_trailer (Head s ∷ parts) h = no_trailer parts h
no_trailer (Body bytes length ∷ parts) h = no_trailer parts (behind_bytes bytes (contents parts) h)
no_trailer (Trailer s ∷ parts) h = cc
no_trailer (End ∷ parts) h = no_trailer parts h

last_none : (parts : List OwnPart) → list_any own.is_trailer parts ≡ false → last_is_trailer parts ≡ false
last_none [] h = refl
last_none (p ∷ []) h = (none_of (own.is_trailer p) false h).0
last_none (p ∷ q ∷ ps) h = last_none (q ∷ ps) (none_of (own.is_trailer p) (list_any own.is_trailer (q ∷ ps)) h).1

-- **What comes next is taken.**
pub takes_head_next : (p : Party) (f : Flow) → IsSoundFlow p f → f.is_reset ≡ false → has_end f.sent ≡ false → awaits_head (contents f.sent) ≡ true → takes_head (outgoing_of f) ≡ true
takes_head_next p f sound live goes awaits =
    both_hold (is_unended (outgoing_of f)) (is_unsent (flat_map own_part f.sent)) (unended f live goes) (unsent p None 0 f.sent refl sound.sent (opposite (list_any is_head_section (contents f.sent)) awaits))

pub takes_body_next : (f : Flow) → f.is_reset ≡ false → has_end f.sent ≡ false → is_between (contents f.sent) ≡ true → takes_body (outgoing_of f) ≡ true
takes_body_next f live goes between =
    let parts : List OwnPart = flat_map own_part f.sent in
    let is = both_of (list_any is_head_section (contents f.sent)) (not (list_any is_trailer_section (contents f.sent))) between in
    let none = last_none parts (no_trailer f.sent (opposite (list_any is_trailer_section (contents f.sent)) is.1)) in
    ap (λ b. b && not (is_unsent parts) && not (last_is_trailer parts)) (unended f live goes) ∙ ap (λ u. not u && not (last_is_trailer parts)) (sent_head f.sent is.0) ∙ ap not none

pub takes_end_next : (f : Flow) → f.is_reset ≡ false → has_end f.sent ≡ false → list_any is_head_section (contents f.sent) ≡ true → takes_end (outgoing_of f) ≡ true
takes_end_next f live goes head =
    let parts : List OwnPart = flat_map own_part f.sent in
    ap (λ b. b && not (is_unsent parts)) (unended f live goes) ∙ ap not (sent_head f.sent head)
