-- What a frame of the peer's control stream does.
use Rattle.std.specs.Prelude.{◌≡◌, ℕ, ◌<◌, true, List, [], ◌∷◌, ◌++◌, length, Option, Some, None, is_some, Vec}
use Rattle.std.specs.declared.alloc.Global.{Global}
use Rattle.h3_proto.specs.declared.stream.Side.{Side}
use Rattle.h3_frames.specs.declared.frame.kinds.FrameKinds.{FrameKinds}
use Rattle.h3_frames.specs.Known.{known_by}
use Rattle.h3_connection.specs.OtherSettings.{OtherSettings, with_told}
use Rattle.h3_connection.specs.PeerReading.{Peer, PeerFound, read_peer}
use Rattle.h3_connection.specs.Updates.{with_update}
use Rattle.h3_unidirectional.specs.Fronts.{ReadsFront}
use Rattle.h3_unidirectional.specs.declared.control.Judged.{Judged}
use Rattle.h3_unidirectional.specs.declared.control.Judged.TheVariants.{Settings, Goaway, MaxPushId, Update, Fault}
use Rattle.h3_unidirectional.specs.declared.control.Progress.{Progress}
use Rattle.h3_unidirectional.specs.declared.control.Progress.TheVariants.{GoesOn, Ends}

-- settings of no meaning that were read, if they were looked for
abbrev pub items_of : Option (Vec (ℕ × ℕ) Global) → Option (List (ℕ × ℕ))
items_of None = None
items_of (Some kept) = Some kept.items

-- they are kept then
abbrev pub others_by : Option (List (ℕ × ℕ)) → OtherSettings → OtherSettings
others_by None o = o
others_by (Some kept) o = record o { kept = kept }

-- They are looked for where the settings are due, and are those of the frame in front.
abbrev pub TellsOthers : FrameKinds → Peer → Option (List (ℕ × ℕ)) → Type 0
TellsOthers kinds p None = p.settings ≡ None → p.others ≡ with_told p.others (known_by kinds p.unread)
TellsOthers kinds p (Some kept) = (p.settings ≡ None) × (record p.others { kept = kept } ≡ with_told p.others (known_by kinds p.unread))

-- a frame of a stream whose settings are due: they came, and nothing else changes; or they did not
abbrev pub KeepsEarlier : Peer → Peer → Progress → Type 0
KeepsEarlier old new GoesOn = (new ≡ record old { unread = new.unread; settings = new.settings; others = new.others }) × (is_some new.settings ≡ true)
KeepsEarlier old new (Ends fault) = new.settings ≡ None

abbrev pub done : Peer → Judged → PeerFound
done p (Settings pairs) = (record p { settings = Some pairs }, None)
done p (Goaway id) = (record p { goaways = p.goaways ++ id ∷ [] }, None)
done p (MaxPushId id) = (record p { most_pushes = Some id }, None)
done p (Update id priority) = (record p { updates = with_update p.updates id priority }, None)
done p (Fault code) = (p, Some code)

-- a frame was read, and fewer bytes are left; or all was read
abbrev pub ReadsOne : FrameKinds → ℕ → Side → Peer → Peer → Progress → Type 0
ReadsOne kinds limit side old new GoesOn = ReadsFront kinds limit side old new × (length new.unread < length old.unread)
ReadsOne kinds limit side old new (Ends fault) = read_peer kinds limit side old ≡ (new, fault)
