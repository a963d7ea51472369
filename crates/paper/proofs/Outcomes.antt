-- Any two outcomes that a public function's contract allows are equal: all rooms together.
-- Assumes nothing.
use Rattle.paper.specs.Outcomes.{Outcomes}
use Rattle.paper.proofs.FrameOutcomes.{frame_outcomes}
use Rattle.paper.proofs.LineOutcomes.{line_outcomes}
use Rattle.paper.proofs.SideOutcomes.{side_outcomes}
use Rattle.paper.proofs.SlaveOutcomes.{slave_outcomes}
use Rattle.paper.proofs.MasterOutcomes.{master_outcomes}
use Rattle.paper.proofs.CaptureOutcomes.{capture_outcomes}
use Rattle.paper.proofs.LayoutOutcomes.{layout_outcomes}
use Rattle.paper.proofs.BitbusOutcomes.{bitbus_outcomes}

pub outcomes : Outcomes
outcomes =
    record {
      frame = frame_outcomes;
      line = line_outcomes;
      side = side_outcomes;
      slave = slave_outcomes;
      master = master_outcomes;
      capture = capture_outcomes;
      layout = layout_outcomes;
      bitbus = bitbus_outcomes;
    }
