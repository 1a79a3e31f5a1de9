-- What two parts, read one behind the other, answer: at each place where the reading may stop, and where both are there.
use Rattle.std.proofs.Common.{◌≡◌, ◌==◌, ◌%◌, ℕ, List, Ok, Err, refl}
use Rattle.h3_field.specs.Reading.{Reading, Whole, Unfinished, Bad, then_read}
use Rattle.std.specs.Prelude.{Vec}
use Rattle.std.specs.declared.alloc.Global.{Global}
use Rattle.h3_field.specs.Field.{Field}
use Rattle.h3_field.specs.IntegerAnswer.{AnswersInteger}
use Rattle.h3_field.specs.StringReading.{Payload, StandsFor, string}
use Rattle.h3_field.specs.StringAnswer.{AnswersPayload, AnswersBytes, of_integer}
use Rattle.h3_field.specs.Shapes as shape
use Rattle.h3_field.specs.ShapeAnswer.{AtString, behind, AnswersIndexAndString, AnswersBothStrings, AnswersTwoStrings, IsIndexAndString, AreTwoStrings}
use Rattle.h3_field.specs.declared.prefix_int.Error as integer_error
use Rattle.h3_field.specs.declared.prefix_int.Error.TheVariants.{Overflow, UnexpectedEnd}
use Rattle.h3_field.specs.declared.parse_error.ParseError.{ParseError}
use Rattle.h3_field.specs.declared.parse_error.ParseError.TheVariants.{String}
use Rattle.h3_field.specs.declared.shapes.TwoStrings.{TwoStrings}

-- two strings, the second of which is read as given
abbrev pub both_of : ℕ × Payload → Reading (ℕ × Payload) → Reading shape.TwoStrings
both_of name r = then_read r (λ value after. Whole (record { flags = name.0; name = name.1; value = value.1 }) after)

abbrev pub two_of : Reading (ℕ × Payload) → Reading shape.TwoStrings
two_of r = then_read r (λ name rest. both_of name (string 8 rest))

pub first_stops : (r : Reading (ℕ × Payload)) (old new : List ℕ) (e : integer_error.Error) → AnswersPayload r old new (Err e) → AnswersTwoStrings (two_of r) old old (Err (String (of_integer e)))
first_stops (Whole value rest) old new e h = absurd (cc)
first_stops Unfinished old new e h = let same : e ≡ UnexpectedEnd = cc in rw same (refl, refl)
first_stops Bad old new e h = let same : e ≡ Overflow = cc in rw same (refl, refl)

second_stopped : (name : ℕ × Payload) (r : Reading (ℕ × Payload)) (old now new : List ℕ) (e : integer_error.Error) → AnswersPayload r now new (Err e) → AnswersTwoStrings (both_of name r) old old (Err (String (of_integer e)))
second_stopped name (Whole value rest) old now new e h = absurd (cc)
second_stopped name Unfinished old now new e h = let same : e ≡ UnexpectedEnd = cc in rw same (refl, refl)
second_stopped name Bad old now new e h = let same : e ≡ Overflow = cc in rw same (refl, refl)

pub second_stops : (r : Reading (ℕ × Payload)) (old mid new : List ℕ) (name : ℕ × Payload) (e : integer_error.Error) → AnswersPayload r old mid (Ok name) → AnswersPayload (string 8 mid) mid new (Err e) → AnswersTwoStrings (two_of r) old old (Err (String (of_integer e)))
second_stops (Whole value rest) old mid new name e h k =
    let same : name ≡ value = cc in
    rw (← same) (second_stopped name (string 8 rest) old rest new e (rw h.1 at k))
second_stops Unfinished old mid new name e h k = absurd (cc)
second_stops Bad old mid new name e h k = absurd (cc)

-- both payloads are there: it is as their strings say
second_read : (name value : ℕ × Payload) (r : Reading (ℕ × Payload)) (old mid new : List ℕ) (parts : TwoStrings) → AnswersPayload r mid new (Ok value) → AnswersBothStrings name.0 name.1 value.1 (Ok parts) → AnswersTwoStrings (both_of name r) old new (Ok parts)
second_read name value (Whole v rest) old mid new parts h k =
    let same : value ≡ v = cc in
    rw (← same) (k.0, k.1, k.2, h.1)
second_read name value Unfinished old mid new parts h k = absurd (cc)
second_read name value Bad old mid new parts h k = absurd (cc)

pub both_read : (r : Reading (ℕ × Payload)) (old mid new : List ℕ) (name value : ℕ × Payload) (parts : TwoStrings) → AnswersPayload r old mid (Ok name) → AnswersPayload (string 8 mid) mid new (Ok value) → AnswersBothStrings name.0 name.1 value.1 (Ok parts) → AnswersTwoStrings (two_of r) old new (Ok parts)
both_read (Whole n rest) old mid new name value parts h k b =
    let same : name ≡ n = cc in
    rw (← same) (second_read name value (string 8 rest) old rest new parts (rw h.1 at k) b)
both_read Unfinished old mid new name value parts h k b = absurd (cc)
both_read Bad old mid new name value parts h k b = absurd (cc)

second_refused : (name value : ℕ × Payload) (r : Reading (ℕ × Payload)) (old mid new : List ℕ) (e : ParseError) → AnswersPayload r mid new (Ok value) → AnswersBothStrings name.0 name.1 value.1 (Err e) → AnswersTwoStrings (both_of name r) old old (Err e)
second_refused name value (Whole v rest) old mid new e h k =
    let same : value ≡ v = cc in
    rw (← same) (k, refl)
second_refused name value Unfinished old mid new e h k = absurd (cc)
second_refused name value Bad old mid new e h k = absurd (cc)

pub both_refused : (r : Reading (ℕ × Payload)) (old mid new : List ℕ) (name value : ℕ × Payload) (e : ParseError) → AnswersPayload r old mid (Ok name) → AnswersPayload (string 8 mid) mid new (Ok value) → AnswersBothStrings name.0 name.1 value.1 (Err e) → AnswersTwoStrings (two_of r) old old (Err e)
both_refused (Whole n rest) old mid new name value e h k b =
    let same : name ≡ n = cc in
    rw (← same) (second_refused name value (string 8 rest) old rest new e (rw h.1 at k) b)
both_refused Unfinished old mid new name value e h k b = absurd (cc)
both_refused Bad old mid new name value e h k b = absurd (cc)

-- an integer and a string, which is read as given
abbrev pub value_of : ℕ × ℕ → Reading (ℕ × Payload) → Reading shape.IndexAndString
value_of head r = then_read r (λ value after. Whole (record { flags = head.0; index = head.1; value = value.1 }) after)

abbrev pub index_of : Reading (ℕ × ℕ) → Reading shape.IndexAndString
index_of r = then_read r (λ head rest. value_of head (string 8 rest))

value_stopped : (head : ℕ × ℕ) (r : Reading (ℕ × Payload)) (old mid new : List ℕ) (e : integer_error.Error) → AnswersPayload r mid new (Err e) → AnswersIndexAndString AtString (value_of head r) old old (Err (String (of_integer e)))
value_stopped head (Whole value rest) old mid new e h = absurd (cc)
value_stopped head Unfinished old mid new e h = let same : e ≡ UnexpectedEnd = cc in rw same (refl, refl)
value_stopped head Bad old mid new e h = let same : e ≡ Overflow = cc in rw same (refl, refl)

pub value_stops : (r : Reading (ℕ × ℕ)) (old mid new : List ℕ) (head : ℕ × ℕ) (e : integer_error.Error) → AnswersInteger r old mid (Ok head) → AnswersPayload (string 8 mid) mid new (Err e) → AnswersIndexAndString (behind r) (index_of r) old old (Err (String (of_integer e)))
value_stops (Whole h rest) old mid new head e is k =
    let same : head ≡ h = cc in
    rw (← same) (value_stopped head (string 8 rest) old rest new e (rw is.1 at k))
value_stops Unfinished old mid new head e is k = absurd (cc)
value_stops Bad old mid new head e is k = absurd (cc)

value_there : (head : ℕ × ℕ) (value : ℕ × Payload) (r : Reading (ℕ × Payload)) (old mid new : List ℕ) (bytes : Vec ℕ Global) → AnswersPayload r mid new (Ok value) → AnswersBytes value.1 (Ok bytes) → AnswersIndexAndString AtString (value_of head r) old new (Ok (record { flags = head.0; index = head.1; value = bytes }))
value_there head value (Whole v rest) old mid new bytes h k =
    let same : value ≡ v = cc in
    rw (← same) (refl, refl, k, h.1)
value_there head value Unfinished old mid new bytes h k = absurd (cc)
value_there head value Bad old mid new bytes h k = absurd (cc)

pub value_read : (r : Reading (ℕ × ℕ)) (old mid new : List ℕ) (head : ℕ × ℕ) (value : ℕ × Payload) (bytes : Vec ℕ Global) → AnswersInteger r old mid (Ok head) → AnswersPayload (string 8 mid) mid new (Ok value) → AnswersBytes value.1 (Ok bytes) → AnswersIndexAndString (behind r) (index_of r) old new (Ok (record { flags = head.0; index = head.1; value = bytes }))
value_read (Whole h rest) old mid new head value bytes is k b =
    let same : head ≡ h = cc in
    rw (← same) (value_there head value (string 8 rest) old rest new bytes (rw is.1 at k) b)
value_read Unfinished old mid new head value bytes is k b = absurd (cc)
value_read Bad old mid new head value bytes is k b = absurd (cc)

-- the same where the strings are read with no memory
short_there : (head : ℕ × ℕ) (value : ℕ × Payload) (r : Reading (ℕ × Payload)) (mid new s : List ℕ) → AnswersPayload r mid new (Ok value) → StandsFor value.1 s → IsIndexAndString (value_of head r) (record { flags = head.0; index = head.1 }) s new
short_there head value (Whole v rest) mid new s h k =
    let same : value ≡ v = cc in
    rw (← same) (refl, refl, k, h.1)
short_there head value Unfinished mid new s h k = absurd (cc)
short_there head value Bad mid new s h k = absurd (cc)

pub short_read : (r : Reading (ℕ × ℕ)) (old mid new s : List ℕ) (head : ℕ × ℕ) (value : ℕ × Payload) → AnswersInteger r old mid (Ok head) → AnswersPayload (string 8 mid) mid new (Ok value) → StandsFor value.1 s → IsIndexAndString (index_of r) (record { flags = head.0; index = head.1 }) s new
short_read (Whole h rest) old mid new s head value is k b =
    let same : head ≡ h = cc in
    rw (← same) (short_there head value (string 8 rest) rest new s (rw is.1 at k) b)
short_read Unfinished old mid new s head value is k b = absurd (cc)
short_read Bad old mid new s head value is k b = absurd (cc)

second_short : (name value : ℕ × Payload) (r : Reading (ℕ × Payload)) (mid new : List ℕ) (f : Field) → AnswersPayload r mid new (Ok value) → StandsFor name.1 f.name → StandsFor value.1 f.value → f.never_indexed ≡ (name.0 % 2 == 1) → AreTwoStrings (both_of name r) f new
second_short name value (Whole v rest) mid new f h k b n =
    let same : value ≡ v = cc in
    rw (← same) (k, b, n, h.1)
second_short name value Unfinished mid new f h k b n = absurd (cc)
second_short name value Bad mid new f h k b n = absurd (cc)

pub both_short : (r : Reading (ℕ × Payload)) (old mid new : List ℕ) (f : Field) (name value : ℕ × Payload) → AnswersPayload r old mid (Ok name) → AnswersPayload (string 8 mid) mid new (Ok value) → StandsFor name.1 f.name → StandsFor value.1 f.value → f.never_indexed ≡ (name.0 % 2 == 1) → AreTwoStrings (two_of r) f new
both_short (Whole m rest) old mid new f name value h k a b n =
    let same : name ≡ m = cc in
    rw (← same) (second_short name value (string 8 rest) rest new f (rw h.1 at k) a b n)
both_short Unfinished old mid new f name value h k a b n = absurd (cc)
both_short Bad old mid new f name value h k a b n = absurd (cc)
