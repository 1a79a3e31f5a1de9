-- The frames of a control stream after its SETTINGS (RFC 9114, section 6.2.1): GOAWAY, and a client's PRIORITY_UPDATE (RFC 9218, section 7.2).
use Rattle.std.specs.Prelude.{ℕ, ◌+◌, ◌-◌, false, List, [], ◌∷◌, ◌++◌, drop, flat_map, take}
use Rattle.h3_coding.specs.Encodings.{encoding}
use Rattle.h3_priority.specs.Priority.{PriorityParameters, value_that_says}
use Rattle.h3_frames.specs.Encoded.{frame_encoding, update_payload}
use Rattle.h3_frames.specs.Update.{type_of_update}

-- an update that was written, and how many GOAWAY frames stand before it
pub record OwnUpdate : Type 0 where
  pub behind : ℕ
  pub id : ℕ
  pub priority : PriorityParameters

abbrev pub goaway_encoding : ℕ → List ℕ
goaway_encoding id = frame_encoding 7 (encoding id)

abbrev pub update_encoding : OwnUpdate → List ℕ
update_encoding u = frame_encoding (type_of_update false) (update_payload (record { is_push = false; id = u.id; value = value_that_says u.priority }))

-- these GOAWAY frames and updates, if so many GOAWAY frames stand before them: each update stands after as many as it says
abbrev pub control_frames : ℕ → List ℕ → List OwnUpdate → List ℕ
control_frames written ids [] = flat_map goaway_encoding ids
control_frames written ids (u ∷ updates) =
    flat_map goaway_encoding (take (u.behind - written) ids) ++ update_encoding u
    ++ control_frames (written + (u.behind - written)) (drop (u.behind - written) ids) updates
