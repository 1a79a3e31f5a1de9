use Rattle.h3_qpack.specs.DecoderState.{checking}
use Rattle.h3_qpack.specs.Encodings.{decoder_of}
use Rattle.h3_qpack.proofs.Schedules.{every_run_is_sound}
use Rattle.h3_qpack.proofs.Encodings.{section_means, own_read}
use Rattle.h3_qpack.proofs.DecodesAgree.{section_value, has_read_at}
use Rattle.h3_qpack.proofs.laws.every_encoding_means_its_fields.Goals as goal

pub returns-clause-means : goal.returns-clause-means
returns-clause-means c = λ checks counts most announced limit events s b run oldest alive came w.
    let h = every_run_is_sound counts most announced limit events s run in
    section_means s b (checking checks (decoder_of s)) h (own_read checks s b h) oldest alive came w

pub returns-clause-value : goal.returns-clause-value
returns-clause-value c = λ counts most announced limit other events s b r run at oldest alive w.
    let h = every_run_is_sound counts most announced limit events s run in
    section_value s b r h (has_read_at other s b r h oldest at) oldest alive w
