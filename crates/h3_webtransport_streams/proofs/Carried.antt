-- What a reader of a session's stream hands out is what was sent on it.
use Rattle.std.proofs.Common.{◌≡◌, ℕ, ◌%◌, ◌^◌, ◌<◌, nat_lt, Bool, true, false, List, [], ◌∷◌, ◌++◌, length, drop, Some, None, refl, ap, sym, subst, ◌∙◌, arith, append_assoc, append-nil, if◌then◌else◌}
use Rattle.std.specs.List.{concat}
use Rattle.std.proofs.lemmas.Bool.Decides.{nat_tests}
use Rattle.h3_coding.specs.Encodings.{encoding}
use Rattle.h3_coding.specs.VarintLaws.{reads_shortest, shorter}
use Rattle.h3_coding.specs.Varint.{varint_at}
use Rattle.h3_capsule.specs.Capsule.{Place, in_head, in_value, read_on}
use Rattle.h3_capsule.specs.Capsule.Place.{InHead}
use Rattle.h3_capsule.specs.declared.capsule.Capsule.TheVariants.{Head, Pending}
use Rattle.h3_frames.specs.Pieces.{with_piece}
use Rattle.h3_webtransport_streams.specs.Carrying.{Begins, Step, after, asked, coming, handed, sessions_told}
use Rattle.h3_webtransport_streams.specs.Carrying.Step.{Asks, Comes}
use Rattle.h3_webtransport_streams.specs.Receiver.{names_session, untold}
use Rattle.h3_webtransport_streams.specs.Sender.{beginning, front_both_ways}
use Rattle.h3_webtransport_streams.specs.SessionStream.{SessionStream, unseen}
use Rattle.h3_webtransport_streams.proofs.Heads.{IsHead, pending, told_whole}

-- One of two beginnings of a list begins the other.
data Split (xs ys us vs : List ℕ) : Type 0 where
  short : (r : List ℕ) → 0 < length r → us ≡ xs ++ r → ys ≡ r ++ vs → Split xs ys us vs
  past : (r : List ℕ) → xs ≡ us ++ r → vs ≡ r ++ ys → Split xs ys us vs

head_same : (x u : ℕ) (xs us : List ℕ) → x ∷ xs ≡ u ∷ us → x ≡ u
head_same x u xs us e = cc

tail_same : (x u : ℕ) (xs us : List ℕ) → x ∷ xs ≡ u ∷ us → xs ≡ us
tail_same x u xs us e = cc

longer : (x u : ℕ) (xs ys us vs : List ℕ) → x ≡ u → Split xs ys us vs → Split (x ∷ xs) ys (u ∷ us) vs
longer x u xs ys us vs same (short r some p q) = short r some (ap (λ l. u ∷ l) p ∙ ap (λ n. n ∷ (xs ++ r)) (sym same)) q
longer x u xs ys us vs same (past r p q) = past r (ap (λ l. x ∷ l) p ∙ ap (λ n. n ∷ (us ++ r)) same) q

split : (xs ys us vs : List ℕ) → xs ++ ys ≡ us ++ vs → Split xs ys us vs
split [] ys [] vs e = past [] refl (sym e)
split [] ys (u ∷ us) vs e = short (u ∷ us) (omega arith) refl e
split (x ∷ xs) ys [] vs e = past (x ∷ xs) refl (sym e)
split (x ∷ xs) ys (u ∷ us) vs e = longer x u xs ys us vs (head_same x u (xs ++ ys) (us ++ vs) e) (split xs ys us vs (tail_same x u (xs ++ ys) (us ++ vs) e))

drop_front : (xs ys : List ℕ) → drop (length xs) (xs ++ ys) ≡ ys
drop_front [] ys = refl
drop_front (x ∷ xs) ys = drop_front xs ys

concat_piece : (pieces : List (List ℕ)) (bytes : List ℕ) → concat (with_piece pieces bytes) ≡ concat pieces ++ bytes
concat_piece pieces [] = sym (append-nil (concat pieces))
concat_piece pieces (b ∷ bytes) = behind pieces
  where
    behind : (ps : List (List ℕ)) → concat (ps ++ (b ∷ bytes) ∷ []) ≡ concat ps ++ (b ∷ bytes)
    behind [] = append-nil (b ∷ bytes)
    behind (p ∷ ps) = ap (λ l. p ++ l) (behind ps) ∙ sym (append_assoc p (concat ps) (b ∷ bytes))

-- The stream while its front is not whole, and behind it.
abbrev at_front : List ℕ → SessionStream
at_front c = record { session = None; sender = None; receiver = Some (record untold { front = Some (InHead c) }) }

abbrev at_bytes : ℕ → List (List ℕ) → Bool → SessionStream
at_bytes session unread told =
    record { session = Some session; sender = Some (beginning []); receiver = Some (record untold { front = None; unread = unread; is_told = told }) }

still_front : (c bytes d : List ℕ) (n : ℕ) → in_head c bytes ≡ (n, Pending, InHead d) → after (at_front c) (Comes bytes) ≡ at_front d
unfolding read_on
still_front c bytes d n e = rw e refl

whole_front : (session : ℕ) (c bytes : List ℕ) (n : ℕ) → names_session session ≡ true → in_head c bytes ≡ (n, Head 0x41 session, in_value session)
    → after (at_front c) (Comes bytes) ≡ at_bytes session (with_piece [] (drop n bytes)) false
unfolding read_on
whole_front session c bytes n is e = rw (e, is) refl

-- What is read behind the front: the bytes are handed out in their order.
put_before : (p : List ℕ) (xs ys : List ℕ) → Begins xs ys → Begins (p ++ xs) (p ++ ys)
put_before p xs ys h = record { rest = h.rest; parts = ap (λ l. p ++ l) h.parts ∙ sym (append_assoc p xs h.rest) }

from_bytes : (session : ℕ) (more : List ℕ) (steps : List Step) (unread : List (List ℕ)) (told : Bool) → Begins (handed (at_bytes session unread told) steps) (concat unread ++ (coming steps ++ more))
from_bytes session more [] unread told = record { rest = concat unread ++ more; parts = refl }
from_bytes session more (Comes bytes ∷ steps) unread told =
    let parts : concat (with_piece unread bytes) ++ (coming steps ++ more) ≡ concat unread ++ ((bytes ++ coming steps) ++ more) =
    ap (λ l. l ++ (coming steps ++ more)) (concat_piece unread bytes) ∙ append_assoc (concat unread) bytes (coming steps ++ more)
    ∙ ap (λ l. concat unread ++ l) (sym (append_assoc bytes (coming steps) more)) in
    subst (Begins (handed (at_bytes session (with_piece unread bytes) told) steps)) parts (from_bytes session more steps (with_piece unread bytes) told)
from_bytes session more (Asks ∷ steps) unread false = from_bytes session more steps unread true
from_bytes session more (Asks ∷ steps) [] true = from_bytes session more steps [] true
from_bytes session more (Asks ∷ steps) (p ∷ pieces) true =
    subst (Begins (p ++ handed (at_bytes session pieces true) steps)) (sym (append_assoc p (concat pieces) (coming steps ++ more)))
    (put_before p (handed (at_bytes session pieces true) steps) (concat pieces ++ (coming steps ++ more)) (from_bytes session more steps pieces true))

-- and in front of that nothing is: where bytes come, and what comes later is known
abbrev Later : ℕ → List ℕ → List ℕ → List Step → Type 0
Later session sent more steps = (c tail : List ℕ) → IsHead (c ++ tail) 0x41 session → 0 < length tail → coming steps ++ more ≡ tail ++ sent → Begins (handed (at_front c) steps) sent

come : (session : ℕ) (sent more bytes : List ℕ) (steps : List Step) (c tail : List ℕ) → names_session session ≡ true → IsHead (c ++ tail) 0x41 session → 0 < length tail
    → Later session sent more steps → Split bytes (coming steps ++ more) tail sent → Begins (handed (after (at_front c) (Comes bytes)) steps) sent
come session sent more bytes steps c tail is head some later (short r left p q) =
    let whole : IsHead (c ++ (bytes ++ r)) 0x41 session = subst (λ l. IsHead (c ++ l) 0x41 session) p head in
    let stays : after (at_front c) (Comes bytes) ≡ at_front (c ++ bytes) = still_front c bytes (c ++ bytes) (length bytes) (pending c bytes r 0x41 session whole left) in
    let head_left : IsHead ((c ++ bytes) ++ r) 0x41 session = subst (λ l. IsHead l 0x41 session) (sym (append_assoc c bytes r)) whole in
    subst (λ s. Begins (handed s steps) sent) (sym stays) (later (c ++ bytes) r head_left left q)
come session sent more bytes steps c tail is head some later (past r p q) =
    let ends : after (at_front c) (Comes bytes) ≡ at_bytes session (with_piece [] (drop (length tail) bytes)) false =
    whole_front session c bytes (length tail) is (ap (in_head c) p ∙ told_whole c tail r 0x41 session head some) in
    let rest : drop (length tail) bytes ≡ r = ap (drop (length tail)) p ∙ drop_front tail r in
    let at : after (at_front c) (Comes bytes) ≡ at_bytes session (with_piece [] r) false = ends ∙ ap (λ l. at_bytes session (with_piece [] l) false) rest in
    let sent_is : concat (with_piece [] r) ++ (coming steps ++ more) ≡ sent = ap (λ l. l ++ (coming steps ++ more)) (concat_piece [] r) ∙ sym q in
    subst (λ s. Begins (handed s steps) sent) (sym at) (subst (Begins (handed (at_bytes session (with_piece [] r) false) steps)) sent_is (from_bytes session more steps (with_piece [] r) false))

from_front : (session : ℕ) (sent more : List ℕ) (steps : List Step) → names_session session ≡ true → Later session sent more steps
from_front session sent more [] is c tail head some e = record { rest = sent; parts = refl }
from_front session sent more (Asks ∷ steps) is c tail head some e = from_front session sent more steps is c tail head some e
from_front session sent more (Comes bytes ∷ steps) is c tail head some e =
    come session sent more bytes steps c tail is head some (from_front session sent more steps is)
    (split bytes (coming steps ++ more) tail sent (sym (append_assoc bytes (coming steps) more) ∙ e))

-- The front of a session is read as a head.
front_head : (session : ℕ) → session < 2 ^ 62 → IsHead ([] ++ front_both_ways session) 0x41 session
front_head session below =
    record {
      behind = encoding session;
      kind_is = reads_shortest 0x41 (encoding session) (omega arith);
      len_is = ap varint_at (sym (append-nil (encoding session))) ∙ reads_shortest session [] below;
    }

names : (session : ℕ) → session < 2 ^ 62 → session % 4 ≡ 0 → names_session session ≡ true
unfolding names_session
names session below is =
    let small : nat_lt session (2 ^ 62) ≡ true = grind (arith, nat_tests) in
    rw (small, is) refl

some_front : (session : ℕ) → session < 2 ^ 62 → 0 < length (front_both_ways session)
some_front session below = omega (arith, shorter 0x41 (encoding 0x41 ++ encoding session) (encoding session) (reads_shortest 0x41 (encoding session) (omega arith)))

pub hands_out : (session : ℕ) (sent more : List ℕ) (steps : List Step) → session < 2 ^ 62 → session % 4 ≡ 0 → coming steps ++ more ≡ front_both_ways session ++ sent → Begins (handed unseen steps) sent
hands_out session sent more steps below is e =
    from_front session sent more steps (names session below is) [] (front_both_ways session) (front_head session below) (some_front session below) e

-- Which session is told: none any more once it was,
none_more : (session : ℕ) (steps : List Step) (unread : List (List ℕ)) → sessions_told (at_bytes session unread true) steps ≡ []
none_more session [] unread = refl
none_more session (Comes bytes ∷ steps) unread = none_more session steps (with_piece unread bytes)
none_more session (Asks ∷ steps) [] = none_more session steps []
none_more session (Asks ∷ steps) (p ∷ pieces) = none_more session steps pieces

-- and this one behind its front
tells_behind : (session : ℕ) (steps : List Step) (unread : List (List ℕ)) → Begins (sessions_told (at_bytes session unread false) steps) (session ∷ [])
tells_behind session [] unread = record { rest = session ∷ []; parts = refl }
tells_behind session (Comes bytes ∷ steps) unread = tells_behind session steps (with_piece unread bytes)
tells_behind session (Asks ∷ steps) unread = record { rest = []; parts = ap (λ l. session ∷ (l ++ [])) (sym (none_more session steps unread)) }

abbrev TellsLater : ℕ → List ℕ → List ℕ → List Step → Type 0
TellsLater session sent more steps =
    (c tail : List ℕ) → IsHead (c ++ tail) 0x41 session → 0 < length tail → coming steps ++ more ≡ tail ++ sent → Begins (sessions_told (at_front c) steps) (session ∷ [])

tells_come : (session : ℕ) (sent more bytes : List ℕ) (steps : List Step) (c tail : List ℕ) → names_session session ≡ true → IsHead (c ++ tail) 0x41 session → 0 < length tail
    → TellsLater session sent more steps → Split bytes (coming steps ++ more) tail sent → Begins (sessions_told (after (at_front c) (Comes bytes)) steps) (session ∷ [])
tells_come session sent more bytes steps c tail is head some later (short r left p q) =
    let whole : IsHead (c ++ (bytes ++ r)) 0x41 session = subst (λ l. IsHead (c ++ l) 0x41 session) p head in
    let stays : after (at_front c) (Comes bytes) ≡ at_front (c ++ bytes) = still_front c bytes (c ++ bytes) (length bytes) (pending c bytes r 0x41 session whole left) in
    let head_left : IsHead ((c ++ bytes) ++ r) 0x41 session = subst (λ l. IsHead l 0x41 session) (sym (append_assoc c bytes r)) whole in
    subst (λ s. Begins (sessions_told s steps) (session ∷ [])) (sym stays) (later (c ++ bytes) r head_left left q)
tells_come session sent more bytes steps c tail is head some later (past r p q) =
    let ends : after (at_front c) (Comes bytes) ≡ at_bytes session (with_piece [] (drop (length tail) bytes)) false =
    whole_front session c bytes (length tail) is (ap (in_head c) p ∙ told_whole c tail r 0x41 session head some) in
    subst (λ s. Begins (sessions_told s steps) (session ∷ [])) (sym ends) (tells_behind session steps (with_piece [] (drop (length tail) bytes)))

tells_front : (session : ℕ) (sent more : List ℕ) (steps : List Step) → names_session session ≡ true → TellsLater session sent more steps
tells_front session sent more [] is c tail head some e = record { rest = session ∷ []; parts = refl }
tells_front session sent more (Asks ∷ steps) is c tail head some e = tells_front session sent more steps is c tail head some e
tells_front session sent more (Comes bytes ∷ steps) is c tail head some e =
    tells_come session sent more bytes steps c tail is head some (tells_front session sent more steps is)
    (split bytes (coming steps ++ more) tail sent (sym (append_assoc bytes (coming steps) more) ∙ e))

pub tells_session : (session : ℕ) (sent more : List ℕ) (steps : List Step) → session < 2 ^ 62 → session % 4 ≡ 0 → coming steps ++ more ≡ front_both_ways session ++ sent
    → Begins (sessions_told unseen steps) (session ∷ [])
tells_session session sent more steps below is e =
    tells_front session sent more steps (names session below is) [] (front_both_ways session) (front_head session below) (some_front session below) e
