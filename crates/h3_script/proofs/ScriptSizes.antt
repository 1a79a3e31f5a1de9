-- What the events of a script send.
use Rattle.std.proofs.Common.{◌≡◌, ℕ, ◌+◌, ◌*◌, ◌^◌, ◌==◌, ◌<◌, ◌≤◌, Bool, true, false, not, List, [], ◌∷◌, ◌++◌, length, map, sum_by, codes, bytes_eq, Option, Some, None, option_map, unwrap_or, refl, ◌∙◌, ap, sym, subst, arith, inl, inr, length-append, length-take, if◌then◌else◌}
use Rattle.std.proofs.lemmas.List.{length-map, map-append}
use Rattle.std.proofs.lemmas.List.Sums.{sum_by-append, sum_by-cons}
use Rattle.std.proofs.lemmas.Slice.Eq.{bytes_eq-Decides}
use Rattle.http_header.specs.Token.{lowercase}
use Rattle.http_header.specs.FieldValue.{FieldValue, plain_value}
use Rattle.http_header.specs.HeaderMap.{Entry, Entries, entry_pairs, pairs, append}
use Rattle.http_uri.specs.ByteClasses.{lowercase as lower_uri, index_of, hash_sign}
use Rattle.http_uri.specs.Grammar.{IsForm, IsTail, without_fragment, normal_scheme, or_slash}
use Rattle.http_uri.specs.Uri.{Spells, uri_scheme, uri_authority, uri_data, has_path}
use Rattle.http_uri.specs.declared.uri.Uri.{Uri as Target}
use Rattle.h3_field.specs.Field.{Field, field_size, plain_field, section_size}
use Rattle.h3_proto.specs.declared.stream.Side.{Side}
use Rattle.h3_header.specs.Head.{Head, head_fields, to_field, regular_fields, pseudo_fields, response_head, trailer_head}
use Rattle.std.specs.List.{AllByRecursion}
use Rattle.std.specs.Prelude.{IfSome}
use Rattle.h3_header.specs.ProtocolText.{IsProtocolBy}
use Rattle.h3_header.specs.RequestPath.{behind, rooted, takes_slash}
use Rattle.h3_header.specs.Request.{request_head}
use Rattle.h3_script.specs.Pieces.{cut}
use Rattle.h3_script.specs.HeadText.{AddsFields, IsHeadText, IsTrailerText, HeadBy, is_status}
use Rattle.h3_script.specs.ScriptLine.{is_skipped, SaysSection, IsBody, SaysEvent}
use Rattle.h3_script.specs.Small.{AreSmall}
use Rattle.h3_script.specs.Words.{words_of}
use Rattle.h3_script.specs.Script.{lines_of, said, SayEvents, SaysSoFar, lines_length, IsScript}
use Rattle.h3_world.specs.Sendable.{NamesTaken}
use Rattle.h3_world.specs.Setup.{Setup, both_take_any}
use Rattle.h3_world.specs.Small.{IsSmall}
use Rattle.h3_world.specs.declared.event.Event.{Event}
use Rattle.h3_world.specs.declared.event.Event.TheVariants as does
use Rattle.h3_script.proofs.Scripts.{pieces_length}

-- the bytes of the name and the value, and 64
abbrev field_sum : Field → ℕ
field_sum f = length f.name + length f.value + 64

size_most : (fields : List Field) → section_size fields ≤ sum_by field_sum fields
size_most [] = omega arith
size_most (f ∷ fields) = omega (arith, sum_by-cons field_sum f fields, sum_by-cons field_size f fields, size_most fields)

-- those of all fields, and 64 for the call
abbrev head_sum : Head → ℕ
head_sum head = sum_by field_sum (head_fields head) + 64

-- the sum of the fields of some pairs
pairs_sum : List (List ℕ × FieldValue) → ℕ
pairs_sum ps = sum_by field_sum (map to_field ps)

pairs_append : (ps qs : List (List ℕ × FieldValue)) → pairs_sum (ps ++ qs) ≡ pairs_sum ps + pairs_sum qs
unfolding pairs_sum
pairs_append ps qs = ap (sum_by field_sum) (map-append to_field ps qs) ∙ sum_by-append field_sum (map to_field ps) (map to_field qs)

pairs_one : (name : List ℕ) (v : FieldValue) → pairs_sum ((name, v) ∷ []) ≡ length name + length v.bytes + 64
unfolding pairs_sum
pairs_one name v = omega (arith, sum_by-cons field_sum (to_field (name, v)) [])

entry_more : (name : List ℕ) (values : List FieldValue) (v : FieldValue) → pairs_sum (entry_pairs (name, values ++ v ∷ [])) ≡ pairs_sum (entry_pairs (name, values)) + (length name + length v.bytes + 64)
entry_more name values v =
    ap pairs_sum (map-append (λ value. (name, value)) values (v ∷ [])) ∙ pairs_append (entry_pairs (name, values)) ((name, v) ∷ [])
    ∙ ap (λ n. pairs_sum (entry_pairs (name, values)) + n) (pairs_one name v)

none_sum : pairs_sum (pairs {X = FieldValue} []) ≡ 0
unfolding pairs_sum
none_sum = refl

-- one more field
append_sum : (m : Entries FieldValue) (name : List ℕ) (v : FieldValue) → pairs_sum (pairs (append m name v)) ≡ pairs_sum (pairs m) + (length name + length v.bytes + 64)
append_sum [] name v = omega (arith, pairs_one name v, none_sum)
append_sum (e ∷ m) name v = append_at e m name v (bytes_eq e.0 name) refl (append_sum m name v)
  where
    append_at : (e : Entry FieldValue) (m : Entries FieldValue) (name : List ℕ) (v : FieldValue) (b : Bool) → bytes_eq e.0 name ≡ b
        → pairs_sum (pairs (append m name v)) ≡ pairs_sum (pairs m) + (length name + length v.bytes + 64)
        → pairs_sum (pairs (append (e ∷ m) name v)) ≡ pairs_sum (pairs (e ∷ m)) + (length name + length v.bytes + 64)
    append_at e m name v true t h =
        let same = (bytes_eq-Decides e.0 name).0 t in
        rw t (omega (arith, pairs_append (entry_pairs (e.0, e.1 ++ v ∷ [])) (pairs m), entry_more e.0 e.1 v, pairs_append (entry_pairs e) (pairs m), ap length same))
    append_at e m name v false t h = rw t (omega (arith, pairs_append (entry_pairs e) (pairs (append m name v)), pairs_append (entry_pairs e) (pairs m), h))

cut_length : (at : ℕ) (xs : List ℕ) (parts : List ℕ × List ℕ) → cut at xs ≡ Some parts → length xs ≡ length parts.0 + length parts.1 + 1
cut_length at [] parts h = cc
cut_length at (x ∷ xs) parts h = cut_at (x == at) x xs (cut at xs) parts h (λ p. cut_length at xs p)
  where
    cut_at : (b : Bool) (x : ℕ) (xs : List ℕ) (found : Option (List ℕ × List ℕ)) (parts : List ℕ × List ℕ)
        → (if b then Some ([], xs) else option_map (λ p. (x ∷ p.0, p.1)) found) ≡ Some parts
        → ((p : List ℕ × List ℕ) → found ≡ Some p → length xs ≡ length p.0 + length p.1 + 1) → length (x ∷ xs) ≡ length parts.0 + length parts.1 + 1
    cut_at true x xs found parts h more =
        let e : ◌≡◌ {A = List ℕ × List ℕ} ([], xs) parts = cc in
        omega (arith, ap (λ (p : List ℕ × List ℕ). length p.0) e, ap (λ (p : List ℕ × List ℕ). length p.1) e)
    cut_at false x xs None parts h more = cc
    cut_at false x xs (Some p) parts h more =
        let e : ◌≡◌ {A = List ℕ × List ℕ} (x ∷ p.0, p.1) parts = cc in
        omega (arith, more p refl, ap (λ (p : List ℕ × List ℕ). length p.0) e, ap (λ (p : List ℕ × List ℕ). length p.1) e)

-- a word has no fewer bytes than its field, the 64 aside
fields_sum : (old new : Entries FieldValue) (words : List (List ℕ)) → AddsFields old words new → pairs_sum (pairs new) ≤ pairs_sum (pairs old) + 128 * lines_length words
fields_sum old new [] h = omega (arith, ap (λ m. pairs_sum (pairs m)) h)
fields_sum old new (word ∷ words) (mid, f, h) =
    let name : List ℕ = f.name in
    let value : List ℕ = f.value in
    let len : length word ≡ length name + length value + 1 = cut_length 61 word (name, value) f.parts in
    let lower : length (lowercase name) ≡ length name = length-map name _ in
    let more = append_sum old (lowercase name) (plain_value value) in
    let here = ap (λ m. pairs_sum (pairs m)) f.after in
    omega (arith, len, lower, more, here, fields_sum mid new words h, sum_by-cons (λ (l : List ℕ). length l + 1) word words)

response_sum : (code : ℕ) (m : Entries FieldValue) → head_sum (response_head code m) ≤ 138 + pairs_sum (pairs m)
unfolding pairs_sum
response_sum code m = omega (arith, sum_by-cons field_sum (plain_field (codes ":status") ((48 + 0) ∷ 0 ∷ 0 ∷ [])) (regular_fields m))

either_bytes : (b : Bool) (xs ys : List ℕ) (n : ℕ) → length xs ≤ n → length ys ≤ n → length (if b then xs else ys) ≤ n
either_bytes true xs ys n p q = p
either_bytes false xs ys n p q = q

scheme_few : (name : List ℕ) → length (normal_scheme name) ≤ length name + 5
scheme_few name =
    let secure = bytes_eq (lower_uri name) (codes "https") in
    either_bytes (bytes_eq (lower_uri name) (codes "http")) (codes "http") (if secure then codes "https" else name) (length name + 5) (omega arith)
    (either_bytes secure (codes "https") name (length name + 5) (omega arith) (omega arith))

-- the parts of a URI have no more bytes than it, but for the ones that are always there
pub record PartsFew (text : List ℕ) (scheme authority : Option (List ℕ)) (kept : List ℕ) : Type 0 where
  pub few : length (unwrap_or scheme (codes "https")) + length (unwrap_or authority []) + length kept ≤ length text + 6

kept_few : (text kept : List ℕ) → kept ≡ without_fragment text → length kept ≤ length text
kept_few text kept e = omega (arith, ap length e, length-take (index_of hash_sign text) text)

tail_few : (text kept : List ℕ) → IsTail text kept → length kept ≤ length text + 1
tail_few text kept (inl h) = omega (arith, ap length h.1)
tail_few text kept (inr h) = omega (arith, kept_few text kept h.2)

parts_few : (text : List ℕ) (scheme authority : Option (List ℕ)) (kept : List ℕ) → IsForm text scheme authority kept → PartsFew text scheme authority kept
parts_few text None None kept h = record { few = omega (arith, kept_few text kept h.1) }
parts_few text None (Some a) kept h = record { few = omega (arith, ap length h.2, ap length h.3) }
parts_few text (Some s) None kept h = absurd h
parts_few text (Some s) (Some a) kept h =
    let normal : length s ≡ length (normal_scheme h.name) = ap length h.normal in
    record { few = omega (arith, simp length-append at (ap length h.spelled), normal, scheme_few h.name, tail_few h.tail kept h.is_tail) }

behind_few : (flag : Bool) (kept : List ℕ) → length (behind flag kept) ≤ length kept + 1
behind_few true kept = omega arith
behind_few false kept = omega arith

path_few : (method kept : List ℕ) (b : Bool) → length (or_slash (if b then rooted method kept else codes "/")) ≤ length kept + 1
path_few method kept b =
    let path = if b then rooted method kept else codes "/" in
    let few = either_bytes b (rooted method kept) (codes "/") (length kept + 1) (behind_few (takes_slash method kept) kept) (omega arith) in
    either_bytes (length path == 0) (codes "/") path (length kept + 1) (omega arith) few

no_protocol : (b : Bool) → ◌≡◌ {A = Option (List ℕ)} (if b then None else None) None
no_protocol true = refl
no_protocol false = refl

-- the sum of a request's fields
pseudo_sum : (method scheme path : List ℕ) (authority protocol : Option (List ℕ)) (m : Entries FieldValue) → protocol ≡ None
    → sum_by field_sum (pseudo_fields (Some method) (Some scheme) authority (Some path) None protocol ++ regular_fields m)
    ≤ 285 + length method + length scheme + length (unwrap_or authority []) + length (or_slash path) + pairs_sum (pairs m)
unfolding pairs_sum
pseudo_sum method scheme path authority (Some x) m h = cc
pseudo_sum method scheme path None None m h =
    let last : Field = plain_field (codes ":path") (or_slash path) in
    let second : Field = plain_field (codes ":scheme") scheme in
    let first : Field = plain_field (codes ":method") method in
    omega (arith, sum_by-cons field_sum first (second ∷ last ∷ regular_fields m), sum_by-cons field_sum second (last ∷ regular_fields m), sum_by-cons field_sum last (regular_fields m))
pseudo_sum method scheme path (Some a) None m h =
    let last : Field = plain_field (codes ":path") (or_slash path) in
    let third : Field = plain_field (codes ":authority") a in
    let second : Field = plain_field (codes ":scheme") scheme in
    let first : Field = plain_field (codes ":method") method in
    omega (
      arith,
      sum_by-cons field_sum first (second ∷ third ∷ last ∷ regular_fields m),
      sum_by-cons field_sum second (third ∷ last ∷ regular_fields m),
      sum_by-cons field_sum third (last ∷ regular_fields m),
      sum_by-cons field_sum last (regular_fields m),
    )

request_sum : (method uri : List ℕ) (target : Target) (m : Entries FieldValue) → Spells uri target → head_sum (request_head method target m None) ≤ 360 + length method + length uri + pairs_sum (pairs m)
request_sum method uri target m h =
    let parts = parts_few uri (uri_scheme target) (uri_authority target) (uri_data target) h.1 in
    let scheme = unwrap_or (uri_scheme target) (codes "https") in
    let path = if has_path target then rooted method (uri_data target) else codes "/" in
    omega (
      arith,
      parts.few,
      path_few method (uri_data target) (has_path target),
      pseudo_sum method scheme path (uri_authority target) (if bytes_eq method (codes "CONNECT") then None else None) m (no_protocol (bytes_eq method (codes "CONNECT"))),
    )

head_few : (words : List (List ℕ)) (head : Head) → IsHeadText words head → head_sum head ≤ 128 * (3 + lines_length words)
head_few [] head h = absurd h
head_few (what ∷ words) head h = omega (arith, head_by (is_status what) what words head h, sum_by-cons (λ (l : List ℕ). length l + 1) what words)
  where
    head_by : (b : Bool) (what : List ℕ) (words : List (List ℕ)) (head : Head) → HeadBy b what words head → head_sum head ≤ 128 * (4 + length what + lines_length words)
    head_by true what words head h =
        omega (arith, ap head_sum h.head_is, response_sum h.code h.fields, fields_sum [] h.fields words h.adds, none_sum)
    head_by false what [] head h = absurd h
    head_by false what (uri ∷ words) head h =
        omega (arith, ap head_sum h.head_is, request_sum what uri h.target h.fields h.spells, fields_sum [] h.fields words h.adds, none_sum, sum_by-cons (λ (l : List ℕ). length l + 1) uri words)

trailer_sum : (m : Entries FieldValue) → head_sum (trailer_head m) ≡ pairs_sum (pairs m) + 64
unfolding pairs_sum
trailer_sum m = refl

trailer_few : (words : List (List ℕ)) (trailer : Head) → IsTrailerText words trailer → head_sum trailer ≤ 128 * (3 + lines_length words)
trailer_few words trailer h = omega (arith, ap head_sum h.trailer_is, trailer_sum h.fields, fields_sum [] h.fields words h.adds, none_sum)

section_few : (name : List ℕ) (Says : List (List ℕ) → Head → Type 0) → ((words : List (List ℕ)) (x : Head) → Says words x → head_sum x ≤ 128 * (3 + lines_length words))
    → (words : List (List ℕ)) (acting : Side) (stream : ℕ) (x : Head) → SaysSection name Says words acting stream x → head_sum x ≤ 128 * lines_length words
section_few name Says few [] acting stream x h = absurd h
section_few name Says few (a ∷ []) acting stream x h = absurd h
section_few name Says few (a ∷ b ∷ []) acting stream x h = absurd h
section_few name Says few (a ∷ b ∷ c ∷ words) acting stream x h =
    let len = λ (l : List ℕ). length l + 1 in
    omega (arith, few words x h.section_is, sum_by-cons len a (b ∷ c ∷ words), sum_by-cons len b (c ∷ words), sum_by-cons len c words)

-- A field section is no more than so many times its line,
sent_small : (line : List ℕ) (x : Head) → head_sum x ≤ 128 * lines_length (words_of line) → length line + 1 ≤ 2 ^ 48 + 1 → section_size (head_fields x) < 2 ^ 56
sent_small line x h few = omega (arith, size_most (head_fields x), h, pieces_length 32 line, few)

-- and so is a body.
body_small : (line : List ℕ) (acting : Side) (stream : ℕ) (bytes : List ℕ) → IsBody line acting stream bytes → length line + 1 ≤ 2 ^ 48 + 1 → length bytes < 2 ^ 56
body_small line acting stream bytes h few =
    let side_word : List ℕ = h.side in
    let id_word : List ℕ = h.id in
    let whole : length line ≡ length (codes "body " ++ (side_word ++ 32 ∷ (id_word ++ 32 ∷ bytes))) = ap length h.line_is in
    omega (
      arith,
      few,
      whole,
      length-append (codes "body ") (side_word ++ 32 ∷ (id_word ++ 32 ∷ bytes)),
      length-append side_word (32 ∷ (id_word ++ 32 ∷ bytes)),
      length-append id_word (32 ∷ bytes),
    )

event_small : (line : List ℕ) (event : Event) → SaysEvent line event → length line + 1 ≤ 2 ^ 48 + 1 → IsSmall event
event_small line (does.OpenRequest acting) h few = tt
event_small line (does.Head acting stream head) h few = sent_small line head (section_few (codes "head") IsHeadText head_few (words_of line) acting stream head h) few
event_small line (does.Fields acting stream fields) h few = absurd h
event_small line (does.Body acting stream bytes) h few = body_small line acting stream bytes h few
event_small line (does.Trailer acting stream trailer) h few = sent_small line trailer (section_few (codes "trailer") IsTrailerText trailer_few (words_of line) acting stream trailer h) few
event_small line (does.TrailerFields acting stream fields) h few = absurd h
event_small line (does.Finish acting stream) h few = tt
event_small line (does.Reset acting stream) h few = tt
event_small line (does.Cancel acting stream) h few = tt
event_small line (does.Goaway acting number) h few = tt
event_small line (does.Deliver acting stream count) h few = tt
event_small line (does.DeliverEnd acting stream) h few = tt
event_small line (does.DeliverReset acting stream) h few = tt
event_small line (does.Pull acting stream) h few = tt
event_small line (does.PullFields acting stream) h few = tt
event_small line (does.Show acting) h few = tt

-- No header of a script has a protocol.
none_by : (head other : Head) → head ≡ other → other.protocol ≡ None → head.protocol ≡ None
none_by head other is none = ap (λ (h : Head). h.protocol) is ∙ none

either_none : (b : Bool) → (let protocol : Option (List ℕ) = if b then None else None in protocol) ≡ None
either_none true = refl
either_none false = refl

head_none_by : (b : Bool) (what : List ℕ) (words : List (List ℕ)) (head : Head) → HeadBy b what words head → head.protocol ≡ None
head_none_by true what words head h = none_by head (response_head h.code h.fields) h.head_is refl
head_none_by false what [] head h = absurd h
head_none_by false what (uri ∷ words) head h = none_by head (request_head what h.target h.fields None) h.head_is (either_none (bytes_eq what (codes "CONNECT")))

head_none : (words : List (List ℕ)) (head : Head) → IsHeadText words head → head.protocol ≡ None
head_none [] head h = absurd h
head_none (what ∷ words) head h = head_none_by (is_status what) what words head h

trailer_none : (words : List (List ℕ)) (trailer : Head) → IsTrailerText words trailer → trailer.protocol ≡ None
trailer_none words trailer h = none_by trailer (trailer_head h.fields) h.trailer_is refl

section_taken : (any : Bool) (name : List ℕ) (Says : List (List ℕ) → Head → Type 0) → ((words : List (List ℕ)) (x : Head) → Says words x → x.protocol ≡ None)
    → (words : List (List ℕ)) (acting : Side) (stream : ℕ) (x : Head) → SaysSection name Says words acting stream x → IfSome x.protocol (IsProtocolBy any)
section_taken any name Says none [] acting stream x h = absurd h
section_taken any name Says none (a ∷ []) acting stream x h = absurd h
section_taken any name Says none (a ∷ b ∷ []) acting stream x h = absurd h
section_taken any name Says none (a ∷ b ∷ c ∷ words) acting stream x h = subst (λ o. IfSome o (IsProtocolBy any)) (sym (none words x h.section_is)) tt

event_taken : (any : Bool) (line : List ℕ) (event : Event) → SaysEvent line event → NamesTaken any event
event_taken any line (does.OpenRequest acting) h = tt
event_taken any line (does.Head acting stream head) h = section_taken any (codes "head") IsHeadText head_none (words_of line) acting stream head h
event_taken any line (does.Fields acting stream fields) h = absurd h
event_taken any line (does.Body acting stream bytes) h = tt
event_taken any line (does.Trailer acting stream trailer) h = section_taken any (codes "trailer") IsTrailerText trailer_none (words_of line) acting stream trailer h
event_taken any line (does.TrailerFields acting stream fields) h = absurd h
event_taken any line (does.Finish acting stream) h = tt
event_taken any line (does.Reset acting stream) h = tt
event_taken any line (does.Cancel acting stream) h = tt
event_taken any line (does.Goaway acting number) h = tt
event_taken any line (does.Deliver acting stream count) h = tt
event_taken any line (does.DeliverEnd acting stream) h = tt
event_taken any line (does.DeliverReset acting stream) h = tt
event_taken any line (does.Pull acting stream) h = tt
event_taken any line (does.PullFields acting stream) h = tt
event_taken any line (does.Show acting) h = tt

events_taken : (any : Bool) (lines : List (List ℕ)) (events : List Event) → SayEvents lines events → AllByRecursion (NamesTaken any) events
events_taken any [] [] h = tt
events_taken any [] (e ∷ events) h = absurd h
events_taken any (l ∷ lines) [] h = absurd h
events_taken any (l ∷ lines) (e ∷ events) h = (event_taken any l e h.0, events_taken any lines events h.1)

so_far_taken : (lines : List (List ℕ)) (setup : Setup) (events : List Event) → SaysSoFar lines (Some setup) events → AllByRecursion (NamesTaken (both_take_any setup)) events
so_far_taken [] setup events h = absurd h
so_far_taken (first ∷ rest) setup events h = events_taken (both_take_any setup) rest events h.1

events_small : (lines : List (List ℕ)) (events : List Event) → SayEvents lines events → lines_length lines ≤ 2 ^ 48 + 1 → AllByRecursion IsSmall events
events_small [] [] h few = tt
events_small [] (e ∷ events) h few = absurd h
events_small (l ∷ lines) [] h few = absurd h
events_small (l ∷ lines) (e ∷ events) h few =
    let len = sum_by-cons (λ (l : List ℕ). length l + 1) l lines in
    (event_small l e h.0 (omega (arith, few, len)), events_small lines events h.1 (omega (arith, few, len)))

said_few : (lines : List (List ℕ)) → lines_length (said lines) ≤ lines_length lines
said_few [] = omega arith
said_few (l ∷ lines) =
    let len = λ (l : List ℕ). length l + 1 in
    either_few (not (is_skipped l)) (l ∷ said lines) (said lines) (lines_length (l ∷ lines))
    (omega (arith, said_few lines, sum_by-cons len l (said lines), sum_by-cons len l lines)) (omega (arith, said_few lines, sum_by-cons len l lines))
  where
    either_few : (b : Bool) (xs ys : List (List ℕ)) (n : ℕ) → lines_length xs ≤ n → lines_length ys ≤ n → lines_length (if b then xs else ys) ≤ n
    either_few true xs ys n p q = p
    either_few false xs ys n p q = q

so_far_small : (lines : List (List ℕ)) (setup : Setup) (events : List Event) → SaysSoFar lines (Some setup) events → lines_length lines ≤ 2 ^ 48 + 1 → AllByRecursion IsSmall events
so_far_small [] setup events h few = absurd h
so_far_small (first ∷ rest) setup events h few = events_small rest events h.1 (omega (arith, few, sum_by-cons (λ (l : List ℕ). length l + 1) first rest))

pub script_small : (text : List ℕ) (setup : Setup) (events : List Event) → IsScript (2 ^ 48) text setup events → AreSmall events
script_small text setup events h = so_far_small (said (lines_of text)) setup events h.says (omega (arith, said_few (lines_of text), pieces_length 10 text, h.within))

pub script_taken : (most : ℕ) (text : List ℕ) (setup : Setup) (events : List Event) → IsScript most text setup events → AllByRecursion (NamesTaken (both_take_any setup)) events
script_taken most text setup events h = so_far_taken (said (lines_of text)) setup events h.says
