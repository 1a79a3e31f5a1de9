-- One SETTINGS frame over two lists is that of both, one behind the other.
use Rattle.std.proofs.Common.{◌≡◌, ℕ, ◌+◌, List, [], ◌∷◌, ◌++◌, length, append-nil, length-append, ap, sym, ◌∙◌}
use Rattle.std.proofs.lemmas.Grind.{flat_map-append}
use Rattle.h3_coding.specs.Encodings.{encoding}
use Rattle.h3_proto.specs.Pairs.{pair_encoding, payload_of}
use Rattle.h3_frames.specs.Encoded.{head_encoding}
use Rattle.h3_frames.specs.ControlStreams.{control_encoding}
use Rattle.h3_connection.specs.OwnSettings.{control_start}
use Rattle.h3_unidirectional.specs.Starts.{start_of_both}

of_both : (settings further : List (ℕ × ℕ)) → start_of_both settings further ≡ control_encoding (settings ++ further)
of_both settings further =
    ap (λ n. encoding 0 ++ (head_encoding 4 n ++ (payload_of settings ++ payload_of further))) (sym (length-append (payload_of settings) (payload_of further)))
    ∙ ap (λ l. encoding 0 ++ (head_encoding 4 (length l) ++ l)) (sym (flat_map-append pair_encoding settings further))

pub both_start : (settings further : List (ℕ × ℕ)) → start_of_both settings further ≡ control_start settings further
both_start settings [] = of_both settings [] ∙ ap control_encoding (append-nil settings)
both_start settings (p ∷ further) = of_both settings (p ∷ further)
