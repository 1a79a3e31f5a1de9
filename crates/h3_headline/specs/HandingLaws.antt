-- What one item hands out of a flow.
use Rattle.std.proofs.Common.{◌≡◌, ℕ, zero, suc, ◌+◌, ◌-◌, List, [], ◌∷◌, ◌++◌, ap, ◌∙◌, arith, Some, Bool, true, false, refl, sym, append-nil, append_assoc, ◌≤◌, length, ◌⊎◌, inl, inr, subst, Option, None}
use Rattle.std.specs.Prelude.{IfSome, option_map, take, slice_get, unwrap_or, ◌||◌, ◌&&◌, nat_lt, if◌then◌else◌, drop, ◌==◌, map}
use Rattle.h3_world.specs.Flow.{Part, Flow, Section}
use Rattle.std.proofs.lemmas.Grind.{common_steps, flat_map-append}
use Rattle.h3_world.specs.Lists.{as_flagged}
use Rattle.h3_world.specs.Order.{next_part, is_end, is_over, section_of_part}
use Rattle.h3_field.specs.Field.{Field, section_size}
use Rattle.h3_header.specs.Head.{Head as Fields, head_fields}
use Rattle.h3_header.specs.Reads.{head_of_fields}
use Rattle.h3_connection.specs.declared.event.Item.{Item}
use Rattle.h3_connection.specs.declared.event.Item.TheVariants as item
use Rattle.h3_connection.specs.Lists.{item_of, list_in}
use Rattle.h3_connection.specs.declared.lists.ListItem.{ListItem}
use Rattle.h3_connection.specs.declared.lists.ListItem.TheVariants as listed
use Rattle.h3_world.specs.Flow.Part.{Interim, Head, Body, Trailer, End}
use Rattle.h3_world.specs.Items.{IsSectionItem, after_piece, HasCome, after_item}
use Rattle.std.proofs.lemmas.List.{map-append}
use Rattle.h3_world.specs.Sound.{OutOfNext}
use Rattle.h3_headline.specs.ContentLaws.{bytes_are, none_of_piece}
use Rattle.h3_headline.specs.Contents.{Moves, contents, has_end, out, out_of, part_contents, piece_of}
use Rattle.h3_headline.specs.FlowLaws.{same_number}
use Rattle.h3_headline.specs.Handing.{GivesItem, is_end_item, item_contents, listed_contents}
use Rattle.h3_headline.specs.Exactly.{IsAllOf, IsExactly, Reader}
use Rattle.h3_headline.specs.Messages.{MessageContent, SectionKind}
use Rattle.h3_headline.specs.Messages.MessageContent.{Byte, FieldSection}
use Rattle.h3_headline.specs.Messages.SectionKind.{OfHead, OfInterim, OfTrailer}

-- the next of some parts
take_next : (parts : List Part) (n : ℕ) (part : Part) → slice_get parts n ≡ Some part → take (n + 1) parts ≡ take n parts ++ part ∷ []
take_next [] n part e = cc
take_next (p ∷ ps) zero part e = ap (λ o. unwrap_or o p ∷ []) e
take_next (p ∷ ps) (suc n) part e = ap (λ m. take m (p ∷ ps)) (more n) ∙ ap (λ l. p ∷ l) (take_next ps n part e)
  where
    more : (n : ℕ) → suc n + 1 ≡ suc (n + 1)
    more n = omega arith

or_false : (a : Bool) → a ≡ (a || false)
or_false true = refl
or_false false = refl

differ : false ≡ true → ⊥
differ h = grind (arith, common_steps, h)

-- what is out of a flow, with one more part whole
one_more : (f : Flow) (part : Part) (came : List MessageContent) → next_part f ≡ Some part → part_contents part ≡ piece_of f.body_out (next_part f) ++ came
    → out_of f.sent (f.parts_out + 1) 0 ≡ out f ++ came
one_more f part came next rest =
    let before = contents (take f.parts_out f.sent) in
    ap (λ l. contents (take (f.parts_out + 1) f.sent) ++ l) (none_of_piece (slice_get f.sent (f.parts_out + 1)))
    ∙ append-nil (contents (take (f.parts_out + 1) f.sent))
    ∙ ap contents (take_next f.sent f.parts_out part next)
    ∙ flat_map-append part_contents (take f.parts_out f.sent) (part ∷ [])
    ∙ ap (λ l. before ++ l) (append-nil (part_contents part) ∙ rest)
    ∙ sym (append_assoc before (piece_of f.body_out (next_part f)) came)

-- then the end is out if the part is the end
last_out : (n : ℕ) (parts : List Part) (part : Part) → slice_get parts n ≡ Some part → is_end (Some part) ≡ true → (nat_lt 0 (n + 1) && is_end (slice_get parts (n + 1 - 1))) ≡ true
last_out n parts part next is =
    ap (λ b. b && is_end (slice_get parts (n + 1 - 1))) (positive n) ∙ ap (λ m. is_end (slice_get parts m)) (before n) ∙ ap is_end next ∙ is
  where
    positive : (n : ℕ) → nat_lt 0 (n + 1) ≡ true
    positive n = grind (arith, common_steps)

    before : (n : ℕ) → n + 1 - 1 ≡ n
    before n = omega arith

-- The rest of the next part goes out, and this is handed out of it.
part_out : (r : Reader) (f g : Flow) (part : Part) (came given : List MessageContent) (ending : Bool) → next_part f ≡ Some part → is_over f ≡ false
    → g.sent ≡ f.sent → g.parts_out ≡ f.parts_out + 1 → g.body_out ≡ 0 → part_contents part ≡ piece_of f.body_out (next_part f) ++ came → IsAllOf (IsExactly r) given came → (ending ≡ true → is_end (Some part) ≡ true)
    → Moves r f g [] false given ending
part_out r f g part came given ending next over sent parts body rest is ends =
    record {
      sent_is = ap contents sent ∙ sym (append-nil (contents f.sent));
      end_is = ap has_end sent ∙ or_false (has_end f.sent);
      hands = record {
        came = came;
        more =
            ap (λ l. out_of l g.parts_out g.body_out) sent ∙ ap (λ n. out_of f.sent n g.body_out) parts ∙ ap (out_of f.sent (f.parts_out + 1)) body
            ∙ one_more f part came next rest;
        is = is;
      };
      over_is = λ e.
          ap (λ l. nat_lt 0 g.parts_out && is_end (slice_get l (g.parts_out - 1))) sent ∙ ap (λ n. nat_lt 0 n && is_end (slice_get f.sent (n - 1))) parts
          ∙ last_out f.parts_out f.sent part next (ends (ap (λ b. b || ending) (sym over) ∙ e));
    }

pub gives_itself : (r : Reader) (part : Option Part) (i : Item) → GivesItem r part i (item_contents i)
gives_itself r part i = record { section = λ k s e h. h; others = λ e. refl }

-- the list that is next, of a section
list_is : (guards : Bool) (o : Option Section) (s : Section) (fields : List Field) → o ≡ Some s → option_map (λ (x : Section). as_flagged guards x.fields) o ≡ Some fields → fields ≡ as_flagged guards s.fields
list_is guards o s fields e is = ap (λ (x : Option (List Field)). unwrap_or x fields) (sym is ∙ ap (λ p. option_map (λ (x : Section). as_flagged guards x.fields) p) e)

list_none : (guards : Bool) (o : Option Section) (fields : List Field) → o ≡ None → option_map (λ (x : Section). as_flagged guards x.fields) o ≡ Some fields → ⊥
list_none guards None fields e is = cc
list_none guards (Some s) fields e is = cc

pub gives_list : (r : Reader) (part : Option Part) (l : ListItem) → IfSome (list_in l) (λ fields. option_map (λ (s : Section). as_flagged r.guards s.fields) (section_of_part part) ≡ Some fields)
    → GivesItem r part (item_of l) (listed_contents l)
gives_list r part (listed.Interim fields) is = record {
  section = λ k s e h. ((h.0.0, list_is r.guards (section_of_part part) s fields e is, h.0.2), tt);
  others = λ e. absurd (list_none r.guards (section_of_part part) fields e is);
}
gives_list r part (listed.Head fields) is = record {
  section = λ k s e h. ((h.0.0, list_is r.guards (section_of_part part) s fields e is, h.0.2), tt);
  others = λ e. absurd (list_none r.guards (section_of_part part) fields e is);
}
gives_list r part (listed.Trailer fields) is = record {
  section = λ k s e h. ((h.0.0, list_is r.guards (section_of_part part) s fields e is, h.0.2), tt);
  others = λ e. absurd (list_none r.guards (section_of_part part) fields e is);
}
gives_list r part (listed.Body bytes) is = record { section = λ k s e h. h; others = λ e. refl }
gives_list r part (listed.TooLarge size) is = record { section = λ k s e h. h; others = λ e. refl }
gives_list r part (listed.Session id) is = record { section = λ k s e h. h; others = λ e. refl }
gives_list r part (listed.Raw bytes) is = record { section = λ k s e h. h; others = λ e. refl }
gives_list r part listed.End is = record { section = λ k s e h. h; others = λ e. refl }

-- a section within the limit
section_whole : (kind : Fields → Item) (k : SectionKind) (r : Reader) (fields : List Field) (i : Item) → ((h : Fields) → item_contents (kind h) ≡ FieldSection k false (head_fields h) ∷ [])
    → (i ≡ kind (head_of_fields fields)) × (section_size fields ≤ r.most) → IsAllOf (IsExactly r) (item_contents i) (FieldSection k true fields ∷ [])
section_whole kind k r fields i of h =
    subst (λ l. IsAllOf (IsExactly r) l (FieldSection k true fields ∷ [])) (sym (ap item_contents h.0 ∙ of (head_of_fields fields))) ((refl, refl, h.1), tt)

-- The item of a section is the section, as the reader takes it.
section_item : (kind : Fields → Item) (k : SectionKind) (r : Reader) (fields : List Field) (i : Item) → ((h : Fields) → item_contents (kind h) ≡ FieldSection k false (head_fields h) ∷ [])
    → IsSectionItem kind r.most fields i → IsAllOf (IsExactly r) (item_contents i) (FieldSection k true fields ∷ [])
section_item kind k r fields (item.TooLarge size) of h = (h, tt)
section_item kind k r fields (item.Interim head) of h = section_whole kind k r fields (item.Interim head) of h
section_item kind k r fields (item.Head head) of h = section_whole kind k r fields (item.Head head) of h
section_item kind k r fields (item.Body bytes) of h = section_whole kind k r fields (item.Body bytes) of h
section_item kind k r fields (item.Trailer head) of h = section_whole kind k r fields (item.Trailer head) of h
section_item kind k r fields (item.Session id) of h = section_whole kind k r fields (item.Session id) of h
section_item kind k r fields (item.Raw bytes) of h = section_whole kind k r fields (item.Raw bytes) of h
section_item kind k r fields item.End of h = section_whole kind k r fields item.End of h

none_taken : (n : ℕ) → ◌≡◌ {A = List ℕ} (take n []) []
none_taken zero = refl
none_taken (suc n) = refl

take_taken : (count : ℕ) (bytes : List ℕ) → take (length (take count bytes)) bytes ≡ take count bytes
take_taken zero bytes = refl
take_taken (suc n) [] = refl
take_taken (suc n) (b ∷ bytes) = ap (λ l. b ∷ l) (take_taken n bytes)

-- the bytes that are out, and the piece behind them
take_more : (n count : ℕ) (bytes : List ℕ) → take (n + length (take count (drop n bytes))) bytes ≡ take n bytes ++ take count (drop n bytes)
take_more zero count bytes = ap (λ m. take m bytes) (behind (length (take count bytes))) ∙ take_taken count bytes
  where
    behind : (m : ℕ) → 0 + m ≡ m
    behind m = omega arith
take_more (suc n) count [] = none_taken (suc n + length (take count [])) ∙ sym (none_taken count)
take_more (suc n) count (b ∷ bytes) = ap (λ m. take m (b ∷ bytes)) (one (length (take count (drop n bytes)))) ∙ ap (λ l. b ∷ l) (take_more n count bytes)
  where
    one : (m : ℕ) → suc n + m ≡ suc (n + m)
    one m = omega arith

all_bytes : (bytes : List ℕ) → take (length bytes) bytes ≡ bytes
all_bytes [] = refl
all_bytes (b ∷ bytes) = ap (λ l. b ∷ l) (all_bytes bytes)

-- a further piece of the body
bytes_out : (r : Reader) (f : Flow) (bytes : List ℕ) (own count : ℕ) → next_part f ≡ Some (Body bytes own) → is_over f ≡ false
    → Moves r f (after_piece f bytes (length (take count (drop f.body_out bytes)))) [] false (map Byte (take count (drop f.body_out bytes))) false
bytes_out r f bytes own count next over = by_test (f.body_out + length (take count (drop f.body_out bytes)) == length bytes) refl
  where
    piece : List ℕ
    piece = take count (drop f.body_out bytes)

    marks : map Byte (take (f.body_out + length piece) bytes) ≡ piece_of f.body_out (next_part f) ++ map Byte piece
    marks =
        ap (map Byte) (take_more f.body_out count bytes) ∙ map-append Byte (take f.body_out bytes) piece
        ∙ ap (λ o. piece_of f.body_out o ++ map Byte piece) (sym next)

    by_test : (t : Bool) → (f.body_out + length piece == length bytes) ≡ t
        → Moves r f (if t then record f { parts_out = f.parts_out + 1; body_out = 0; waits_for = 0 } else record f { body_out = f.body_out + length piece; waits_for = 0 }) [] false (map Byte piece) false
    by_test true is =
        part_out r f (record f { parts_out = f.parts_out + 1; body_out = 0; waits_for = 0 }) (Body bytes own) (map Byte piece) (map Byte piece) false next over refl refl refl
        (ap (map Byte) (sym (all_bytes bytes) ∙ ap (λ n. take n bytes) (sym (same_number (f.body_out + length piece) (length bytes) is))) ∙ marks) (bytes_are r piece) (λ e. absurd (differ e))
    by_test false is =
        record {
          sent_is = sym (append-nil (contents f.sent));
          end_is = or_false (has_end f.sent);
          hands = record {
            came = map Byte piece;
            more =
                ap (λ o. contents (take f.parts_out f.sent) ++ piece_of (f.body_out + length piece) o) next
                ∙ ap (λ l. contents (take f.parts_out f.sent) ++ l) marks
                ∙ sym (append_assoc (contents (take f.parts_out f.sent)) (piece_of f.body_out (next_part f)) (map Byte piece));
            is = bytes_are r piece;
          };
          over_is = λ e. absurd (differ (sym over ∙ or_false (is_over f) ∙ e));
        }

-- such an item is not the end
section_ends : (kind : Fields → Item) (most : ℕ) (fields : List Field) (i : Item) → ((h : Fields) → is_end_item (kind h) ≡ false) → IsSectionItem kind most fields i → is_end_item i ≡ false
section_ends kind most fields (item.TooLarge size) of h = refl
section_ends kind most fields (item.Interim head) of h = refl
section_ends kind most fields (item.Head head) of h = refl
section_ends kind most fields (item.Body bytes) of h = refl
section_ends kind most fields (item.Trailer head) of h = refl
section_ends kind most fields (item.Session id) of h = refl
section_ends kind most fields (item.Raw bytes) of h = refl
section_ends kind most fields item.End of h = ap is_end_item h.0 ∙ of (head_of_fields fields)

section_out : (r : Reader) (f : Flow) (part : Part) (kind : Fields → Item) (k : SectionKind) (s : Section) (i : Item) (given : List MessageContent) → next_part f ≡ Some part → is_over f ≡ false → f.body_out ≡ 0
    → part_contents part ≡ FieldSection k true s.fields ∷ [] → section_of_part (Some part) ≡ Some s → ((h : Fields) → item_contents (kind h) ≡ FieldSection k false (head_fields h) ∷ []) → ((h : Fields) → is_end_item (kind h) ≡ false)
    → IsSectionItem kind r.most s.fields i → GivesItem r (Some part) i given → Moves r f (record f { parts_out = f.parts_out + 1; waits_for = 0 }) [] false given (is_end_item i)
section_out r f part kind k s i given next over none contents_are section of ends h gives =
    part_out r f (record f { parts_out = f.parts_out + 1; waits_for = 0 }) part (FieldSection k true s.fields ∷ []) given (is_end_item i) next over refl refl none
    (contents_are ∙ ap (λ l. l ++ FieldSection k true s.fields ∷ []) (sym (none_of_piece (next_part f)) ∙ ap (λ b. piece_of b (next_part f)) (sym none)))
    (gives.section k s section (section_item kind k r s.fields i of h))
    (λ e. absurd (differ (sym (section_ends kind r.most s.fields i ends h) ∙ e)))

-- no bytes are out of a part that is no piece of the body
no_bytes : (f : Flow) (part : Option Part) → (OutOfNext f part → ⊥) → next_part f ≡ part → (f.body_out ≡ 0) ⊎ OutOfNext f (next_part f) → f.body_out ≡ 0
no_bytes f part no_body next (inl h) = h
no_bytes f part no_body next (inr h) = absurd (no_body (subst (OutOfNext f) next h))

-- **An item of the next part.**
pub hands : (r : Reader) (f : Flow) (part : Option Part) (i : Item) (given : List MessageContent) → (f.body_out ≡ 0) ⊎ OutOfNext f (next_part f) → is_over f ≡ false → next_part f ≡ part → HasCome r.most f part i
    → GivesItem r part i given → Moves r f (after_item f part i) [] false given (is_end_item i)
hands r f None i given body over next has gives = absurd has
hands r f (Some (Interim s)) i given body over next has gives =
    section_out r f (Interim s) item.Interim OfInterim s i given next over (no_bytes f (Some (Interim s)) (λ h. h) next body) refl refl (λ h. refl) (λ h. refl) has.1 gives
hands r f (Some (Head s)) i given body over next has gives =
    section_out r f (Head s) item.Head OfHead s i given next over (no_bytes f (Some (Head s)) (λ h. h) next body) refl refl (λ h. refl) (λ h. refl) has.1 gives
hands r f (Some (Trailer s)) i given body over next has gives =
    section_out r f (Trailer s) item.Trailer OfTrailer s i given next over (no_bytes f (Some (Trailer s)) (λ h. h) next body) refl refl (λ h. refl) (λ h. refl) has.1 gives
hands r f (Some (Body bytes own)) i given body over next has gives =
    subst (λ l. Moves r f (after_item f (Some (Body bytes own)) i) [] false l (is_end_item i)) (sym (gives.others refl))
    (subst (λ x. Moves r f (after_item f (Some (Body bytes own)) x) [] false (item_contents x) (is_end_item x)) (sym has.3) (bytes_out r f bytes own has.0 next over))
hands r f (Some End) i given body over next has gives =
    subst (λ l. Moves r f (after_item f (Some End) i) [] false l (is_end_item i)) (sym (gives.others refl))
    (subst (λ x. Moves r f (after_item f (Some End) x) [] false (item_contents x) (is_end_item x)) (sym has.1)
    (part_out r f (record f { parts_out = f.parts_out + 1; waits_for = 0 }) End [] [] true next over refl refl (no_bytes f (Some End) (λ h. h) next body)
    (ap (λ o. piece_of f.body_out o ++ []) (sym next)) tt (λ e. refl)))
