-- Document 01's cases at the edges, those marked P among them, by computation: one statement over the list of all of them.
-- Assumes nothing.
use mathlib.Core.Path.{◌≡◌, refl}
use mathlib.Core.List.{map}
use Rattle.opus_defines.specs.Rules.{rule_refusal}
use Rattle.opus_toc.specs.Toc.{duration}
use Rattle.opus_size.specs.Size.{length_field}
use Rattle.opus_size.specs.Answers.{encode_size}
use Rattle.opus_format.specs.Reading.{read}
use Rattle.opus.specs.Answers.{parsed}
use Rattle.opus.specs.Cases.{Case}
use Rattle.opus_header.specs.Header.{header}
use Rattle.opus_header.specs.Compact.{compact, full, filling}
use Rattle.packet_pad.specs.Lengths.{lengths_of}
use Rattle.packet_pad.specs.Pad.{pad_packet, padded}
use Rattle.packet_pad.specs.Unpad.{unpad_packet, unpadded}
use Rattle.multistream.specs.Pad.{pad_streams, streams_padded}
use Rattle.multistream.specs.Unpad.{unpad_streams, streams_unpadded}
use Rattle.multistream.specs.Cases.{all_cases}

pub all_cases_lem : map (λ (c : Case). c.gives) all_cases ≡ map (λ (c : Case). c.says) all_cases
unfolding rule_refusal parsed read duration length_field encode_size header compact full filling lengths_of
    pad_packet padded unpad_packet unpadded pad_streams streams_padded unpad_streams streams_unpadded
all_cases_lem = refl
