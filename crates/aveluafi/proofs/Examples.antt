-- The records that C sees, by computation: document 01's cases with every field, and zeros beside a refusal.
-- Assumes nothing.
use Prim.Native.Nat.{ℕ}
use mathlib.Core.Path.{◌≡◌, refl}
use mathlib.Core.List.{List, [], ◌∷◌, ◌++◌}
use mathlib.Core.Bool.{true, false}
use lib.IntN.{pos, negsuc}
use lib.ListN.{replicate}
use Rattle.opus_defines.specs.Rules.{rule_refusal}
use Rattle.opus_defines.specs.declared.Refusal.TheVariants.{OverBudget}
use Rattle.std.specs.Prelude.{Ok, Err}
use Rattle.opus_toc.specs.Toc.{duration}
use Rattle.opus_size.specs.Answers.{size_told, parse_size}
use Rattle.opus_format.specs.Reading.{read}
use Rattle.opus.specs.Answers.{parsed}
use Rattle.capture.specs.Finding.{packet_length, before, record_from, next_record}
use Rattle.opus_head.specs.Header.{letters}
use Rattle.opus_head.specs.Reading.{fields_fit, head_read}
use Rattle.aveluafi.specs.Records.{size_record, packet_record, capture_record, share_record, head_record}

-- FC 01 is 256 in two bytes; cut short it is -1 with the rule that was told, at place 0; told rule 5 it is -1 without a rule
pub sizes_in_c : size_record (parse_size 7 (0xfc ∷ 0x01 ∷ [])) ∷ size_record (parse_size 7 (0xfc ∷ [])) ∷ size_record (parse_size 5 (0xfc ∷ [])) ∷ []
    ≡ record { report = record { number = pos 2; rule = 0; place = 0 }; size = 256 }
    ∷ record { report = record { number = negsuc 0; rule = 7; place = 0 }; size = 0 }
    ∷ record { report = record { number = negsuc 0; rule = 0; place = 0 }; size = 0 } ∷ []
unfolding parse_size size_told
sizes_in_c = refl

-- self-delimited 07 02 01 AA BB 55: two frames of a byte from place 3 on, 5 bytes taken; 03 83 05 00 breaks rule 7 at byte 2
pub packet_in_c : packet_record (parsed true (0x07 ∷ 0x02 ∷ 0x01 ∷ 0xaa ∷ 0xbb ∷ 0x55 ∷ []))
    ≡ record {
      report = record { number = pos 2; rule = 0; place = 0 };
      lengths = 1 ∷ 1 ∷ replicate 46 0;
      toc = 7;
      payload_offset = 3;
      packet_offset = 5;
    }
unfolding parsed read duration
packet_in_c = refl

pub refused_in_c : packet_record (parsed false (0x03 ∷ 0x83 ∷ 0x05 ∷ 0x00 ∷ []))
    ≡ record {
      report = record { number = negsuc 3; rule = 7; place = 2 };
      lengths = replicate 48 0;
      toc = 0;
      payload_offset = 0;
      packet_offset = 0;
    }
unfolding parsed read duration rule_refusal
refused_in_c = refl

-- two bytes, and a record of line 65 with 3 bytes, asked for from place 1; a start past the end
abbrev sample : List ℕ
sample = 9 ∷ 9 ∷ 0x4B ∷ 0x9D ∷ 65 ∷ 0 ∷ 3 ∷ 7 ∷ 8 ∷ 9 ∷ []

pub records_in_c : capture_record (next_record sample 1) ∷ capture_record (next_record sample 11) ∷ []
    ≡ record { number = pos 0; line = 65; place = 2; length = 3; passed = 1 }
    ∷ record { number = negsuc 0; line = 0; place = 0; length = 0; passed = 0 } ∷ []
unfolding next_record record_from before packet_length
records_in_c = refl

-- a share that was done, with five numbers that are told apart, and one that is over its budget
pub shares_in_c : share_record (Ok (record { resume = 26; records = 3; written = 22; reclaimed = 1; passed = 4 }))
    ∷ share_record (Err OverBudget) ∷ []
    ≡ record { number = pos 0; resume = 26; records = 3; written = 22; reclaimed = 1; passed = 4 }
    ∷ record { number = negsuc 20; resume = 0; records = 0; written = 0; reclaimed = 0; passed = 0 } ∷ []
shares_in_c = refl

-- an identification header of six channels, each field told apart; cut before its last byte
abbrev six : List ℕ
six = letters ++ (1 ∷ 6 ∷ 0x38 ∷ 0x01 ∷ 0x80 ∷ 0xbb ∷ 0 ∷ 0 ∷ 0 ∷ 0xff ∷ 7 ∷ 4 ∷ 2 ∷ 0 ∷ 4 ∷ 1 ∷ 2 ∷ 3 ∷ [])

pub head_in_c : head_record (head_read (six ++ (5 ∷ [])))
    ≡ record {
      number = pos 0;
      head = record {
        version = 1;
        channels = 6;
        pre_skip = 312;
        rate = 48000;
        gain = negsuc 255;
        family = 7;
        streams = 4;
        coupled = 2;
        mapping = 0 ∷ 4 ∷ 1 ∷ 2 ∷ 3 ∷ 5 ∷ replicate 249 0;
      };
    }
unfolding head_read fields_fit
head_in_c = refl

pub refused_head_in_c : head_record (head_read six)
    ≡ record {
      number = negsuc 21;
      head = record {
        version = 0;
        channels = 0;
        pre_skip = 0;
        rate = 0;
        gain = pos 0;
        family = 0;
        streams = 0;
        coupled = 0;
        mapping = replicate 255 0;
      };
    }
unfolding head_read fields_fit
refused_head_in_c = refl
