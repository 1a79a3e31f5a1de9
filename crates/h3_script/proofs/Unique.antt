-- A script has one setup and one list of events.
use Rattle.std.proofs.Common.{◌≡◌, ℕ, ◌+◌, ◌/◌, ◌%◌, ◌==◌, ◌||◌, not, Bool, true, false, List, [], ◌∷◌, length, codes, bytes_eq, Option, Some, None, is_some, option_and_then, unwrap_or, refl, sym, ◌∙◌, ap, arith, if◌then◌else◌}
use Rattle.http.specs.StatusCode.{IsStatusCode, code_digits}
use Rattle.http_header.specs.FieldValue.{FieldValue}
use Rattle.http_header.specs.HeaderMap.{Entries}
use Rattle.http_uri.specs.Uri.{uri_scheme, uri_authority, uri_data}
use Rattle.http_uri.specs.declared.uri.Uri.{Uri as Target}
use Rattle.http_uri.proofs.Theorems.{Spells_unique}
use Rattle.std.proofs.lemmas.Slice.Eq.{bytes_eq-Decides}
use Rattle.h3_header.specs.Head.{Head, response_head, trailer_head}
use Rattle.h3_header.specs.Request.{request_head}
use Rattle.h3_header.specs.RequestPath.{rooted}
use Rattle.h3_proto.specs.declared.stream.Side.{Side}
use Rattle.h3_script.specs.Words.{words_of, number_of, id_of, side_of}
use Rattle.h3_script.specs.HeadText.{IsResponse, IsRequest, HeadBy, is_status, IsHeadText, IsTrailerText}
use Rattle.h3_script.specs.ScriptLine.{setup_of, side_event, number_event, deliver_event, number_by, deliver_by, short_event, SaysSection, SaysHead, SaysTrailer, IsBody, SaysEvent}
use Rattle.h3_script.specs.BodyLine.{body_of}
use Rattle.h3_script.specs.Script.{lines_of, said, SayEvents, SaysSoFar, IsScript}
use Rattle.h3_world.specs.Setup.{Setup}
use Rattle.h3_world.specs.declared.event.Event.{Event}
use Rattle.h3_world.specs.declared.event.Event.TheVariants as does
use Rattle.h3_script.proofs.Fields.{fields_one}
use Rattle.h3_script.proofs.Bodies.{body_is}

some_one : {A : Type 0} (found : Option A) (a b : A) → found ≡ Some a → found ≡ Some b → a ≡ b
some_one found a b h k = let e : Some a ≡ Some b = sym h ∙ k in cc

digits_one : (m n : ℕ) → IsStatusCode m → IsStatusCode n → code_digits m ≡ code_digits n → m ≡ n
digits_one m n a b e =
    let x : 48 + m / 100 ≡ 48 + n / 100 = cc in
    let y : 48 + m / 10 % 10 ≡ 48 + n / 10 % 10 = cc in
    let z : 48 + m % 10 ≡ 48 + n % 10 = cc in
    omega (arith, x, y, z, a.0, a.1, b.0, b.1)

response_one : (status : List ℕ) (words : List (List ℕ)) (a b : Head) → IsResponse status words a → IsResponse status words b → a ≡ b
response_one status words a b h k =
    let code = digits_one h.code k.code h.is_code k.is_code (sym h.digits ∙ k.digits) in
    let fields = fields_one [] h.fields k.fields words h.adds k.adds in
    h.head_is ∙ ap (λ c. response_head c h.fields) code ∙ ap (λ f. response_head k.code f) fields ∙ sym k.head_is

head_from : List ℕ → Entries FieldValue → Option (List ℕ) → Option (List ℕ) → List ℕ → Head
head_from method m scheme authority kept =
    record {
      method = Some method;
      scheme = Some (unwrap_or scheme (codes "https"));
      authority = authority;
      path = Some (if not (length kept == 0) || is_some scheme then rooted method kept else codes "/");
      status = None;
      protocol = if bytes_eq method (codes "CONNECT") then None else None;
      regular = m;
    }

same_head : (method : List ℕ) (u v : Target) (m : Entries FieldValue) → uri_scheme u ≡ uri_scheme v → uri_authority u ≡ uri_authority v → uri_data u ≡ uri_data v
    → request_head method u m None ≡ request_head method v m None
unfolding head_from
same_head method u v m s a d =
    ap (λ x. head_from method m x (uri_authority u) (uri_data u)) s ∙ ap (λ x. head_from method m (uri_scheme v) x (uri_data u)) a ∙ ap (head_from method m (uri_scheme v) (uri_authority v)) d

request_one : (method uri : List ℕ) (words : List (List ℕ)) (a b : Head) → IsRequest method uri words a → IsRequest method uri words b → a ≡ b
request_one method uri words a b h k =
    let same = Spells_unique uri h.target k.target h.spells k.spells in
    let fields = fields_one [] h.fields k.fields words h.adds k.adds in
    h.head_is ∙ same_head method h.target k.target h.fields same.0 same.1 same.2 ∙ ap (λ f. request_head method k.target f None) fields ∙ sym k.head_is

head_by_one : (b : Bool) (what : List ℕ) (words : List (List ℕ)) (x y : Head) → HeadBy b what words x → HeadBy b what words y → x ≡ y
head_by_one true what words x y h k = response_one what words x y h k
head_by_one false what [] x y h k = absurd h
head_by_one false what (uri ∷ words) x y h k = request_one what uri words x y h k

head_text_one : (words : List (List ℕ)) (x y : Head) → IsHeadText words x → IsHeadText words y → x ≡ y
head_text_one [] x y h k = absurd h
head_text_one (what ∷ words) x y h k = head_by_one (is_status what) what words x y h k

trailer_text_one : (words : List (List ℕ)) (x y : Head) → IsTrailerText words x → IsTrailerText words y → x ≡ y
trailer_text_one words x y h k = h.trailer_is ∙ ap trailer_head (fields_one [] h.fields k.fields words h.adds k.adds) ∙ sym k.trailer_is

-- the words of a field section have one side, one stream and one list of fields
section_one : (name : List ℕ) (Says : List (List ℕ) → Head → Type 0) → ((words : List (List ℕ)) (x y : Head) → Says words x → Says words y → x ≡ y)
    → (words : List (List ℕ)) (s t : Side) (i j : ℕ) (x y : Head) → SaysSection name Says words s i x → SaysSection name Says words t j y → (s ≡ t) × (i ≡ j) × (x ≡ y)
section_one name Says one [] s t i j x y h k = absurd h
section_one name Says one (a ∷ []) s t i j x y h k = absurd h
section_one name Says one (a ∷ b ∷ []) s t i j x y h k = absurd h
section_one name Says one (a ∷ b ∷ c ∷ words) s t i j x y h k =
    (some_one (side_of b) s t h.side_is k.side_is, some_one (id_of c) i j h.id_is k.id_is, one words x y h.section_is k.section_is)

-- the first word
command_of : List (List ℕ) → List ℕ
command_of [] = []
command_of (word ∷ words) = word

section_command : (name : List ℕ) (Says : List (List ℕ) → Head → Type 0) (words : List (List ℕ)) (s : Side) (i : ℕ) (x : Head) → SaysSection name Says words s i x → command_of words ≡ name
unfolding command_of
section_command name Says [] s i x h = absurd h
section_command name Says (a ∷ []) s i x h = absurd h
section_command name Says (a ∷ b ∷ []) s i x h = absurd h
section_command name Says (a ∷ b ∷ c ∷ words) s i x h = (bytes_eq-Decides a name).0 h.command_is

body_command : (line : List ℕ) (s : Side) (i : ℕ) (bytes : List ℕ) → IsBody line s i bytes → command_of (words_of line) ≡ codes "body"
unfolding command_of
body_command line s i bytes h = ap (λ l. command_of (words_of l)) h.line_is

-- no command of a line with a side and numbers alone
record IsNone (name : List ℕ) : Type 0 where
  pub side : (s : Side) → side_event name s ≡ None
  pub number : (s : Side) (n : ℕ) → number_event name s n ≡ None
  pub deliver : (s : Side) (i n : ℕ) → deliver_event name s i n ≡ None

no_head : IsNone (codes "head")
no_head = record { side = λ s. refl; number = λ s n. refl; deliver = λ s i n. refl }

no_trailer : IsNone (codes "trailer")
no_trailer = record { side = λ s. refl; number = λ s n. refl; deliver = λ s i n. refl }

no_body : IsNone (codes "body")
no_body = record { side = λ s. refl; number = λ s n. refl; deliver = λ s i n. refl }

side_none : (name : List ℕ) → IsNone name → (side : Option Side) → option_and_then (side_event name) side ≡ None
side_none name none None = refl
side_none name none (Some s) = none.side s

number_none : (name : List ℕ) → IsNone name → (side : Option Side) (n : Option ℕ) → number_by name side n ≡ None
number_none name none None n = refl
number_none name none (Some s) None = refl
number_none name none (Some s) (Some n) = none.number s n

deliver_none : (name : List ℕ) → IsNone name → (side : Option Side) (i n : Option ℕ) → deliver_by name side i n ≡ None
deliver_none name none None i n = refl
deliver_none name none (Some s) None n = refl
deliver_none name none (Some s) (Some i) None = refl
deliver_none name none (Some s) (Some i) (Some n) = none.deliver s i n

words_none : (name : List ℕ) → IsNone name → (words : List (List ℕ)) → short_event (name ∷ words) ≡ None
words_none name none [] = refl
words_none name none (s ∷ []) = side_none name none (side_of s)
words_none name none (s ∷ i ∷ []) = number_none name none (side_of s) (id_of i)
words_none name none (s ∷ i ∷ n ∷ []) = deliver_none name none (side_of s) (id_of i) (number_of n)
words_none name none (s ∷ i ∷ n ∷ w ∷ words) = refl

short_none : (name : List ℕ) → IsNone name → (words : List (List ℕ)) → command_of words ≡ name → short_event words ≡ None
unfolding command_of
short_none name none [] e = refl
short_none name none (w ∷ words) e = ap (λ w. short_event (w ∷ words)) e ∙ words_none name none words

not_both : (name : List ℕ) → IsNone name → (words : List (List ℕ)) (e : Event) → command_of words ≡ name → short_event words ≡ Some e → ⊥
not_both name none words e command h = let no : ◌≡◌ {A = Option Event} None (Some e) = sym (short_none name none words command) ∙ h in cc

-- the ways in which a line is an event's
data Said (line : List ℕ) (e : Event) : Type 0 where
  SaidHead : (s : Side) (i : ℕ) (x : Head) → e ≡ does.Head s i x → SaysHead (words_of line) s i x → Said line e
  SaidTrailer : (s : Side) (i : ℕ) (x : Head) → e ≡ does.Trailer s i x → SaysTrailer (words_of line) s i x → Said line e
  SaidBody : (s : Side) (i : ℕ) (bytes : List ℕ) → e ≡ does.Body s i bytes → IsBody line s i bytes → Said line e
  SaidShort : short_event (words_of line) ≡ Some e → Said line e

said_by : (line : List ℕ) (e : Event) → SaysEvent line e → Said line e
said_by line (does.OpenRequest side) h = SaidShort h
said_by line (does.Head side id head) h = SaidHead side id head refl h
said_by line (does.Fields side id fields) h = absurd h
said_by line (does.Body side id bytes) h = SaidBody side id bytes refl h
said_by line (does.Trailer side id trailer) h = SaidTrailer side id trailer refl h
said_by line (does.TrailerFields side id fields) h = absurd h
said_by line (does.Finish side id) h = SaidShort h
said_by line (does.Reset side id) h = SaidShort h
said_by line (does.Cancel side id) h = SaidShort h
said_by line (does.Goaway side number) h = SaidShort h
said_by line (does.Deliver side id count) h = SaidShort h
said_by line (does.DeliverEnd side id) h = SaidShort h
said_by line (does.DeliverReset side id) h = SaidShort h
said_by line (does.Pull side id) h = SaidShort h
said_by line (does.PullFields side id) h = SaidShort h
said_by line (does.Show side) h = SaidShort h

-- a line has one command
commands_differ : (command x y : List ℕ) → bytes_eq x y ≡ false → command ≡ x → command ≡ y → ⊥
commands_differ command x y differs h k = let no : true ≡ false = sym ((bytes_eq-Decides x y).1 (sym h ∙ k)) ∙ differs in cc

body_one : (line : List ℕ) (s t : Side) (i j : ℕ) (x y : List ℕ) → IsBody line s i x → IsBody line t j y → does.Body s i x ≡ does.Body t j y
body_one line s t i j x y h k =
    let e : ◌≡◌ {A = Side × ℕ × List ℕ} (s, i, x) (t, j, y) = some_one (body_of line) (s, i, x) (t, j, y) (body_is line s i x h) (body_is line t j y k) in
    ap (λ (p : Side × ℕ × List ℕ). does.Body p.0 p.1 p.2) e

head_one : (line : List ℕ) (s t : Side) (i j : ℕ) (x y : Head) → SaysHead (words_of line) s i x → SaysHead (words_of line) t j y → does.Head s i x ≡ does.Head t j y
head_one line s t i j x y h k =
    let same = section_one (codes "head") IsHeadText head_text_one (words_of line) s t i j x y h k in
    ap (λ s. does.Head s i x) same.0 ∙ ap (λ i. does.Head t i x) same.1 ∙ ap (λ x. does.Head t j x) same.2

trailer_one : (line : List ℕ) (s t : Side) (i j : ℕ) (x y : Head) → SaysTrailer (words_of line) s i x → SaysTrailer (words_of line) t j y → does.Trailer s i x ≡ does.Trailer t j y
trailer_one line s t i j x y h k =
    let same = section_one (codes "trailer") IsTrailerText trailer_text_one (words_of line) s t i j x y h k in
    ap (λ s. does.Trailer s i x) same.0 ∙ ap (λ i. does.Trailer t i x) same.1 ∙ ap (λ x. does.Trailer t j x) same.2

-- the command of a line that is said in such a way
CommandIs : (line : List ℕ) (e : Event) → Said line e → Type 0
CommandIs line e (SaidHead s i x is h) = command_of (words_of line) ≡ codes "head"
CommandIs line e (SaidTrailer s i x is h) = command_of (words_of line) ≡ codes "trailer"
CommandIs line e (SaidBody s i bytes is h) = command_of (words_of line) ≡ codes "body"
CommandIs line e (SaidShort h) = Unit {0}

command_is : (line : List ℕ) (e : Event) (said : Said line e) → CommandIs line e said
unfolding CommandIs
command_is line e (SaidHead s i x is h) = section_command (codes "head") IsHeadText (words_of line) s i x h
command_is line e (SaidTrailer s i x is h) = section_command (codes "trailer") IsTrailerText (words_of line) s i x h
command_is line e (SaidBody s i bytes is h) = body_command line s i bytes h
command_is line e (SaidShort h) = tt

said_one : (line : List ℕ) (a b : Event) (p : Said line a) (q : Said line b) → CommandIs line a p → CommandIs line b q → a ≡ b
unfolding CommandIs
said_one line a b (SaidHead s i x is h) (SaidHead t j y be k) c d = is ∙ head_one line s t i j x y h k ∙ sym be
said_one line a b (SaidHead s i x is h) (SaidTrailer t j y be k) c d = absurd (commands_differ (command_of (words_of line)) (codes "head") (codes "trailer") refl c d)
said_one line a b (SaidHead s i x is h) (SaidBody t j y be k) c d = absurd (commands_differ (command_of (words_of line)) (codes "head") (codes "body") refl c d)
said_one line a b (SaidHead s i x is h) (SaidShort k) c d = absurd (not_both (codes "head") no_head (words_of line) b c k)
said_one line a b (SaidTrailer s i x is h) (SaidHead t j y be k) c d = absurd (commands_differ (command_of (words_of line)) (codes "trailer") (codes "head") refl c d)
said_one line a b (SaidTrailer s i x is h) (SaidTrailer t j y be k) c d = is ∙ trailer_one line s t i j x y h k ∙ sym be
said_one line a b (SaidTrailer s i x is h) (SaidBody t j y be k) c d = absurd (commands_differ (command_of (words_of line)) (codes "trailer") (codes "body") refl c d)
said_one line a b (SaidTrailer s i x is h) (SaidShort k) c d = absurd (not_both (codes "trailer") no_trailer (words_of line) b c k)
said_one line a b (SaidBody s i x is h) (SaidHead t j y be k) c d = absurd (commands_differ (command_of (words_of line)) (codes "body") (codes "head") refl c d)
said_one line a b (SaidBody s i x is h) (SaidTrailer t j y be k) c d = absurd (commands_differ (command_of (words_of line)) (codes "body") (codes "trailer") refl c d)
said_one line a b (SaidBody s i x is h) (SaidBody t j y be k) c d = is ∙ body_one line s t i j x y h k ∙ sym be
said_one line a b (SaidBody s i x is h) (SaidShort k) c d = absurd (not_both (codes "body") no_body (words_of line) b c k)
said_one line a b (SaidShort h) (SaidHead t j y be k) c d = absurd (not_both (codes "head") no_head (words_of line) a d h)
said_one line a b (SaidShort h) (SaidTrailer t j y be k) c d = absurd (not_both (codes "trailer") no_trailer (words_of line) a d h)
said_one line a b (SaidShort h) (SaidBody t j y be k) c d = absurd (not_both (codes "body") no_body (words_of line) a d h)
said_one line a b (SaidShort h) (SaidShort k) c d = some_one (short_event (words_of line)) a b h k

-- a line is one event's
event_one : (line : List ℕ) (a b : Event) → SaysEvent line a → SaysEvent line b → a ≡ b
event_one line a b h k =
    let p = said_by line a h in
    let q = said_by line b k in
    said_one line a b p q (command_is line a p) (command_is line b q)

events_one : (lines : List (List ℕ)) (xs ys : List Event) → SayEvents lines xs → SayEvents lines ys → xs ≡ ys
events_one [] [] [] h k = refl
events_one [] [] (y ∷ ys) h k = absurd k
events_one [] (x ∷ xs) ys h k = absurd h
events_one (l ∷ lines) [] ys h k = absurd h
events_one (l ∷ lines) (x ∷ xs) [] h k = absurd k
events_one (l ∷ lines) (x ∷ xs) (y ∷ ys) h k =
    let first = event_one l x y h.0 k.0 in
    let rest = events_one lines xs ys h.1 k.1 in
    ap (λ e. e ∷ xs) first ∙ ap (λ es. y ∷ es) rest

so_far_one : (lines : List (List ℕ)) (s t : Setup) (xs ys : List Event) → SaysSoFar lines (Some s) xs → SaysSoFar lines (Some t) ys → (s ≡ t) × (xs ≡ ys)
so_far_one [] s t xs ys h k = absurd h
so_far_one (first ∷ rest) s t xs ys h k = (some_one (setup_of (words_of first)) s t h.0 k.0, events_one rest xs ys h.1 k.1)

pub script_one : (most : ℕ) (text : List ℕ) (s t : Setup) (xs ys : List Event) → IsScript most text s xs → IsScript most text t ys → (s ≡ t) × (xs ≡ ys)
script_one most text s t xs ys h k = so_far_one (said (lines_of text)) s t xs ys h.says k.says
