-- What is written on a control stream comes after all that was written there.
use Rattle.std.proofs.Common.{◌≡◌, ℕ, zero, suc, ◌+◌, ◌-◌, ◌≤◌, List, [], ◌∷◌, ◌++◌, length, drop, take, flat_map, refl, ap, sym, ◌∙◌, arith, append_assoc, append-nil}
use Rattle.std.specs.Prelude.{All}
use Rattle.std.proofs.lemmas.List.Elements.{All-head, All-tail}
use Rattle.h3_connection.specs.OwnUpdates.{OwnUpdate, control_frames, goaway_encoding, update_encoding}
use Rattle.h3_connection.specs.State.{IsBehind}

take_front : (k : ℕ) (ids more : List ℕ) → k ≤ length ids → take k (ids ++ more) ≡ take k ids
take_front zero ids more h = refl
take_front (suc k) [] more h = absurd (omega (arith, h))
take_front (suc k) (x ∷ ids) more h = ap (λ l. x ∷ l) (take_front k ids more (omega (arith, h)))

drop_front : (k : ℕ) (ids more : List ℕ) → k ≤ length ids → drop k (ids ++ more) ≡ drop k ids ++ more
drop_front zero ids more h = refl
drop_front (suc k) [] more h = absurd (omega (arith, h))
drop_front (suc k) (x ∷ ids) more h = drop_front k ids more (omega (arith, h))

take_whole : (k : ℕ) (ids : List ℕ) → length ids ≤ k → take k ids ≡ ids
take_whole zero [] h = refl
take_whole zero (x ∷ ids) h = absurd (omega (arith, h))
take_whole (suc k) [] h = refl
take_whole (suc k) (x ∷ ids) h = ap (λ l. x ∷ l) (take_whole k ids (omega (arith, h)))

drop_whole : (k : ℕ) (ids : List ℕ) → length ids ≤ k → drop k ids ≡ []
drop_whole zero [] h = refl
drop_whole zero (x ∷ ids) h = absurd (omega (arith, h))
drop_whole (suc k) [] h = refl
drop_whole (suc k) (x ∷ ids) h = drop_whole k ids (omega (arith, h))

left : (k : ℕ) (ids : List ℕ) → k ≤ length ids → k + length (drop k ids) ≡ length ids
left zero ids h = omega arith
left (suc k) [] h = absurd (omega (arith, h))
left (suc k) (x ∷ ids) h = let rest = left k ids (omega (arith, h)) in omega (arith, rest)

frames_joined : (ids more : List ℕ) → flat_map goaway_encoding (ids ++ more) ≡ flat_map goaway_encoding ids ++ flat_map goaway_encoding more
frames_joined [] more = refl
frames_joined (id ∷ ids) more =
    ap (λ l. goaway_encoding id ++ l) (frames_joined ids more) ∙ sym (append_assoc (goaway_encoding id) (flat_map goaway_encoding ids) (flat_map goaway_encoding more))

joined : (a b c more : List ℕ) → a ++ b ++ (c ++ more) ≡ (a ++ b ++ c) ++ more
joined a b c more = sym (append_assoc (a ++ b) c more)

-- A GOAWAY frame
pub goaway_last : (written : ℕ) (ids : List ℕ) (id all : ℕ) (updates : List OwnUpdate) → written + length ids ≡ all → All (IsBehind all) updates
    → control_frames written (ids ++ id ∷ []) updates ≡ control_frames written ids updates ++ goaway_encoding id
goaway_last written ids id all [] same behind = frames_joined ids (id ∷ []) ∙ ap (λ l. flat_map goaway_encoding ids ++ l) (append-nil (goaway_encoding id))
goaway_last written ids id all (u ∷ updates) same behind =
    let k : ℕ = u.behind - written in
    let here : u.behind ≤ all = All-head (IsBehind all) u updates behind in
    let few : k ≤ length ids = omega (arith, here, same) in
    let rest : (written + k) + length (drop k ids) ≡ all = omega (arith, left k ids few, same) in
    ap (λ l. flat_map goaway_encoding l ++ update_encoding u ++ control_frames (written + k) (drop k (ids ++ id ∷ [])) updates) (take_front k ids (id ∷ []) few)
    ∙ ap (λ l. flat_map goaway_encoding (take k ids) ++ update_encoding u ++ l)
    (ap (λ l. control_frames (written + k) l updates) (drop_front k ids (id ∷ []) few)
    ∙ goaway_last (written + k) (drop k ids) id all updates rest (All-tail (IsBehind all) u updates behind))
    ∙ joined (flat_map goaway_encoding (take k ids)) (update_encoding u) (control_frames (written + k) (drop k ids) updates) (goaway_encoding id)

-- A PRIORITY_UPDATE frame
pub update_last : (written : ℕ) (ids : List ℕ) (all : ℕ) (updates : List OwnUpdate) (u : OwnUpdate) → written + length ids ≡ all → All (IsBehind all) updates → u.behind ≡ all
    → control_frames written ids (updates ++ u ∷ []) ≡ control_frames written ids updates ++ update_encoding u
update_last written ids all [] u same behind now =
    let k : ℕ = u.behind - written in
    let enough : length ids ≤ k = omega (arith, same, now) in
    ap (λ l. flat_map goaway_encoding l ++ update_encoding u ++ flat_map goaway_encoding (drop k ids)) (take_whole k ids enough)
    ∙ ap (λ l. flat_map goaway_encoding ids ++ update_encoding u ++ flat_map goaway_encoding l) (drop_whole k ids enough)
    ∙ append-nil (flat_map goaway_encoding ids ++ update_encoding u)
update_last written ids all (v ∷ updates) u same behind now =
    let k : ℕ = v.behind - written in
    let here : v.behind ≤ all = All-head (IsBehind all) v updates behind in
    let few : k ≤ length ids = omega (arith, here, same) in
    let rest : (written + k) + length (drop k ids) ≡ all = omega (arith, left k ids few, same) in
    ap (λ l. flat_map goaway_encoding (take k ids) ++ update_encoding v ++ l)
    (update_last (written + k) (drop k ids) all updates u rest (All-tail (IsBehind all) v updates behind) now)
    ∙ joined (flat_map goaway_encoding (take k ids)) (update_encoding v) (control_frames (written + k) (drop k ids) updates) (update_encoding u)
