-- What is told byte by byte: any cut tells alike, and each call of a reader tells what the bytes that it took tell.
use Rattle.std.proofs.Common.{◌≡◌, ℕ, zero, suc, ◌-◌, ◌<◌, ◌≤◌, Bool, true, false, ◌==◌, List, [], ◌∷◌, ◌++◌, length, take, min, map, Some, None, Option, refl, ap, sym, ◌∙◌, arith, append_assoc, append-nil, add-one, if◌then◌else◌, length-take-le}
use Rattle.std.proofs.lemmas.Bool.Decides.{nat_tests}
use Rattle.h3_capsule.specs.declared.capsule.Capsule.{Capsule}
use Rattle.h3_capsule.specs.Capsule.{Place, Answer, head_of, in_value, in_head, with_head, of_value, read_on}
use Rattle.h3_capsule.specs.Capsule.Place.{InHead, InValue, AtEnd}
use Rattle.h3_capsule.specs.Told.{Part, Telling, tell, told_of_byte, then_told, told, parts_of, untold, settled, TellsItsBytes, Calls, TellsAll}
use Rattle.h3_capsule.specs.Told.Part.{Begins, Byte, Ends}
use Rattle.h3_capsule.specs.Told.Calls.{no_call, one_call}

joined : (first second : List Part) (t : Telling) → then_told first (then_told second t) ≡ then_told (first ++ second) t
joined first second t = ap (λ l. (l, t.1)) (sym (append_assoc first second t.0))

pub cut : (place : Place) (bytes more : List ℕ) → told place (bytes ++ more) ≡ then_told (told place bytes).0 (told (told place bytes).1 more)
unfolding told
cut place [] more = refl
cut place (b ∷ bytes) more =
    let t = told_of_byte place b in
    ap (then_told t.0) (cut t.1 bytes more) ∙ joined t.0 (told t.1 bytes).0 (told (told t.1 bytes).1 more)

-- a place where so many bytes of a value are to come: an end is told at once, or it waits
abbrev waits : Bool → ℕ → Place
waits b left = if b then AtEnd else InValue left

abbrev told_at : Bool → ℕ → Telling
told_at b left = if b then (Ends ∷ [], InHead []) else ([], InValue left)

abbrev pair : List Part → Place → Telling
pair parts place = (parts, place)

begins_and_waits : (b : Bool) (kind len : ℕ) → pair ((Begins kind len ∷ (told_at b len).0) ++ []) (told_at b len).1 ≡ pair ((Begins kind len ∷ []) ++ untold (waits b len)) (settled (waits b len))
begins_and_waits true kind len = refl
begins_and_waits false kind len = refl

byte_and_waits : (b : Bool) (value left : ℕ) → pair ((Byte value ∷ (told_at b left).0) ++ []) (told_at b left).1 ≡ pair ((Byte value ∷ []) ++ untold (waits b left)) (settled (waits b left))
byte_and_waits true value left = refl
byte_and_waits false value left = refl

-- a head: no byte tells anything before the last one
abbrev HeadTells : List ℕ → List ℕ → Answer → Type 0
HeadTells front bytes a = told (InHead front) (take a.0 bytes) ≡ (parts_of a.1 [] ++ untold a.2, settled a.2)

head_tells_at : (front bytes : List ℕ) (b : ℕ) (head : Option (ℕ × ℕ)) → head_of (front ++ b ∷ []) ≡ head → HeadTells (front ++ b ∷ []) bytes (in_head (front ++ b ∷ []) bytes) → HeadTells front (b ∷ bytes) (with_head head (in_head (front ++ b ∷ []) bytes))
unfolding told
head_tells_at front bytes b None e t = rw (add-one, e) t
head_tells_at front bytes b (Some head) e t = rw e (begins_and_waits (head.1 == 0) head.0 head.1)

head_tells : (front bytes : List ℕ) → HeadTells front bytes (in_head front bytes)
unfolding told
head_tells front [] = refl
head_tells front (b ∷ bytes) = head_tells_at front bytes b (head_of (front ++ b ∷ [])) refl (head_tells (front ++ b ∷ []) bytes)

no_value_at : (head : Option (ℕ × ℕ)) (a : Answer) (x : List ℕ) → parts_of a.1 x ≡ parts_of a.1 [] → parts_of (with_head head a).1 x ≡ parts_of (with_head head a).1 []
no_value_at None a x h = h
no_value_at (Some head) a x h = refl

no_value : (front bytes x : List ℕ) → parts_of (in_head front bytes).1 x ≡ parts_of (in_head front bytes).1 []
no_value front [] x = refl
no_value front (b ∷ bytes) x = no_value_at (head_of (front ++ b ∷ [])) (in_head (front ++ b ∷ []) bytes) x (no_value (front ++ b ∷ []) bytes x)

-- a value: each byte is told, and the end behind the last one
not_zero : (n : ℕ) → 0 < n → (n == 0) ≡ false
not_zero n h = grind (arith, nat_tests)

value_tells : (left b : ℕ) (bytes : List ℕ) → length (b ∷ bytes) ≤ left → told (InValue left) (b ∷ bytes) ≡ (map Byte (b ∷ bytes) ++ untold (in_value (left - length (b ∷ bytes))), settled (in_value (left - length (b ∷ bytes))))
unfolding told
value_tells left b [] h =
    byte_and_waits (left - 1 == 0) b (left - 1)
value_tells left b (c ∷ bytes) h =
    let rest = value_tells (left - 1) c bytes (omega arith) in
    let some = not_zero (left - 1) (omega arith) in
    let less : left - 1 - length (c ∷ bytes) ≡ left - length (b ∷ (c ∷ bytes)) = omega arith in
    rw some (ap (λ t. tell (Byte b) t) rest ∙ rw less refl)

value_call : (left count : ℕ) (bytes : List ℕ) → count ≤ left → count ≤ length bytes → TellsItsBytes (InValue left) (take (of_value left count).0 bytes) (of_value left count).1 (of_value left count).2
unfolding told
value_call left zero bytes h k = record { parts = refl; next_is = refl }
value_call left (suc n) [] h k = absurd (omega arith)
value_call left (suc n) (b ∷ bytes) h k =
    let some = not_zero (suc n) (omega arith) in
    let all : length (b ∷ take n bytes) ≡ suc n = omega (arith, length-take-le n bytes (omega arith)) in
    let tells = value_tells left b (take n bytes) (omega (arith, all)) in
    let same = rw all at tells in
    rw some (record { parts = ap (λ t. t.0) same; next_is = ap (λ t. t.1) same })

pub each_call : (place : Place) (bytes : List ℕ) → TellsItsBytes place (take (read_on place bytes).0 bytes) (read_on place bytes).1 (read_on place bytes).2
unfolding read_on told
each_call (InHead front) bytes =
    let tells = head_tells front bytes in
    record {
      parts = rw (no_value front bytes (take (in_head front bytes).0 bytes)) (ap (λ t. t.0) tells);
      next_is = ap (λ t. t.1) tells;
    }
each_call (InValue left) bytes = value_call left (min left (length bytes)) bytes (omega arith) (omega arith)
each_call AtEnd bytes = record { parts = refl; next_is = refl }

then_call : (place next last : Place) (taken rest : List ℕ) (capsule : Capsule) (parts : List Part) → TellsItsBytes place taken capsule next → TellsAll next rest parts last → TellsAll place (taken ++ rest) (parts_of capsule taken ++ parts) last
then_call place next last taken rest capsule parts one all =
    let whole = cut (settled place) taken rest ∙ rw one.next_is refl in
    record {
      parts_are = rw whole (sym (append_assoc (untold place) (told (settled place) taken).0 (told (settled next) rest).0)
          ∙ ap (λ l. l ++ (told (settled next) rest).0) one.parts
          ∙ append_assoc (parts_of capsule taken) (untold next) (told (settled next) rest).0
          ∙ ap (λ l. parts_of capsule taken ++ l) all.parts_are
          ∙ sym (append_assoc (parts_of capsule taken) parts (untold last)));
      last_is = rw whole all.last_is;
    }

pub all_calls : (place : Place) (bytes : List ℕ) (parts : List Part) (last : Place) → Calls place bytes parts last → TellsAll place bytes parts last
unfolding told
all_calls place bytes parts last (no_call p) = record { parts_are = append-nil (untold place); last_is = refl }
all_calls place bytes parts last (one_call p piece rest more l calls) =
    then_call p (read_on p piece).2 l (take (read_on p piece).0 piece) rest (read_on p piece).1 more (each_call p piece) (all_calls (read_on p piece).2 rest more l calls)
