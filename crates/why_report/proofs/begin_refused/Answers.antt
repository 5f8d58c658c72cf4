-- `why_report::begin_refused` meets its contract: the refusal is the whole. Assumes nothing.
use mathlib.Core.Path.{refl}
use Rattle.why_report.proofs.Pieces.{put_whole}
use Rattle.why_report.proofs.begin_refused.Goals as goal

pub returns : goal.returns
returns c = (put_whole c.put_refusal.ensures, refl)
