-- `opus_toc::nb_frames` meets its contract: the tests on the way to each `return` say the code.
use Rattle.opus_toc.proofs.Answers.{frames_empty, frames_one, frames_two, frames_cut, frames_count}
use Rattle.opus_toc.proofs.nb_frames.Goals as goal

pub returns : goal.returns
returns c =
    frames_count _ c.if-code-ne3.false c.if-data-lt2.false

pub returns-then-data-eq0 : goal.returns-then-data-eq0
returns-then-data-eq0 c =
    frames_empty _ c.if-data-eq0.true

pub returns-then-code-eq0 : goal.returns-then-code-eq0
returns-then-code-eq0 c =
    frames_one _ c.if-data-eq0.false c.if-code-eq0.true

pub returns-then-code-ne3 : goal.returns-then-code-ne3
returns-then-code-ne3 c =
    frames_two _ c.if-data-eq0.false c.if-code-eq0.false c.if-code-ne3.true

pub returns-then-data-lt2 : goal.returns-then-data-lt2
returns-then-data-lt2 c =
    frames_cut _ c.if-data-eq0.false c.if-code-ne3.false c.if-data-lt2.true
