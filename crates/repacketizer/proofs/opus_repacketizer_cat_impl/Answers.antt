-- `repacketizer::opus_repacketizer_cat_impl` meets its contract: the collector is taken apart and put together again.
use Rattle.collector.proofs.Checks.{headed}
use Rattle.repacketizer.proofs.opus_repacketizer_cat_impl.Goals as goal

pub returns : goal.returns
returns c =
    let e = rw (headed c.args.rp c.head_of.result c.head_of.ensures) at c.add-a.ensures in record {
      answer = e.answer;
      bytes = e.bytes;
    }
