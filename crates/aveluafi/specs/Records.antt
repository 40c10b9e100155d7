-- The core's answers as the records that C sees: the verdict becomes its report, that is number, rule and place, and the other fields are the same.
use Rattle.std.specs.Prelude.{ℕ, List, [], pos, Result, Ok, Err}
use Rattle.opus_defines.specs.Numbers.{plain, refusal_report, refusal_number}
use Rattle.opus_defines.specs.declared.Refusal.{Refusal}
use Rattle.opus_format.specs.Frames.{padded48}
use Rattle.opus.specs.Answers.{packet_with}
use Rattle.opus_size.specs.declared.Size.{Size}
use Rattle.opus.specs.declared.Packet.{Packet}
use Rattle.opus.specs.declared.PacketHead.{PacketHead}
use Rattle.aveluafi.specs.declared.reading.AveluafiSize.{AveluafiSize}
use Rattle.aveluafi.specs.declared.reading.AveluafiPacket.{AveluafiPacket}
use Rattle.capture.specs.Finding.{record_number}
use Rattle.capture.specs.declared.NextRecord.{NextRecord}
use Rattle.aveluafi.specs.declared.captures.AveluafiRecord.{AveluafiRecord}
use Rattle.compaction.specs.Share.{share_number}
use Rattle.compaction.specs.declared.Share.{Share}
use Rattle.aveluafi.specs.declared.compacting.AveluafiShare.{AveluafiShare}
use Rattle.opus_head.specs.declared.OpusHead.{OpusHead}
use Rattle.opus_head.specs.Reading.{zero_head}
use Rattle.aveluafi.specs.declared.identification.AveluafiHead.{AveluafiHead}

-- the number is the bytes of the field, or the refusal's, with zeros beside it
abbrev pub size_record : Result Size Refusal → AveluafiSize
size_record (Ok s) = record { report = plain (pos s.bytes); size = s.size }
size_record (Err e) = record { report = refusal_report e; size = 0 }

-- the number is the count of frames, or the refusal's, with zeros beside it
abbrev pub packet_record : Result Packet Refusal → AveluafiPacket
packet_record (Ok p) =
    record {
      report = plain (pos p.count);
      lengths = p.lengths;
      toc = p.toc;
      payload_offset = p.first;
      packet_offset = p.taken;
    }
packet_record (Err e) =
    record {
      report = refusal_report e;
      lengths = padded48 [];
      toc = 0;
      payload_offset = 0;
      packet_offset = 0;
    }

-- of a packet that was read, with its lengths beside it
abbrev pub whole_record : PacketHead → List ℕ → AveluafiPacket
whole_record p lengths = packet_record (Ok (packet_with p lengths))

abbrev pub capture_record : NextRecord → AveluafiRecord
capture_record r =
    record { number = record_number r; line = r.line; place = r.place; length = r.length; passed = r.passed }

-- zeros beside a refusal
abbrev pub share_record : Result Share Refusal → AveluafiShare
share_record (Ok a) =
    record {
      number = share_number (Ok a);
      resume = a.resume;
      records = a.records;
      written = a.written;
      reclaimed = a.reclaimed;
      passed = a.passed;
    }
share_record (Err e) =
    record {
      number = share_number (Err e);
      resume = 0;
      records = 0;
      written = 0;
      reclaimed = 0;
      passed = 0;
    }

abbrev pub head_record : Result OpusHead Refusal → AveluafiHead
head_record (Ok h) = record { number = pos 0; head = h }
head_record (Err e) = record { number = refusal_number e; head = zero_head }
