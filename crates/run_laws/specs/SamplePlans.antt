-- `sample` beside `plan` over its made files.
use Rattle.std.specs.{Prelude.{◌≡◌, ◌≢◌, ℕ, Some, Ok}, Io.KnownBytes.Appends}
use Rattle.file_ports.specs.Ports.{FileMap}
use Rattle.feed_maker.specs.MadeTables.{made}
use Rattle.interval_fixed.specs.Interval.{Interval}
use Rattle.plan_graph.specs.declared.PlanGraph.{PlanGraph}
use Rattle.command_line.specs.Jobs.{Ask, Sample, Plan, job_of}
use Rattle.journey_model.specs.declared.faults.Fault.TheVariants.{NoMemory}
use Rattle.journey_problem.specs.Paths.{AgreeFor}
use Rattle.journey_report.specs.{AnswerTexts.{leg_count, sample_text}, Findings.findings_of}
use Rattle.meat_engine.specs.Samples.{sample_journey, sample_alpha}
use Rattle.run_laws.specs.Runs.{RunModel, IsUntroubled, ReceiveAlike}

-- it ends as the plan does, and finds the same, and how many connections there are; the row that it prints is of these
pub record IsPrintedPlan (size : ℕ) (r s : RunModel) : Type 0 where
  pub fault : r.report.fault ≡ s.report.fault
  pub status : r.report.status.0 ≡ s.report.status.0
  pub findings : findings_of r.report ≡ record (findings_of s.report) { connections = r.report.connections }
  pub err : ReceiveAlike r.before.err r.after.err s.before.err s.after.err
  pub text : (graph : PlanGraph) (bounds : Interval) (connections : ℕ) → s.report.graph ≡ Some graph → s.report.bounds ≡ Some bounds
      → r.report.connections ≡ Some connections → Appends r.before.out.written r.after.out.written (sample_text size connections (leg_count graph) bounds)

-- `sample` is `plan` of its journey over files that hold the made ones at its paths, printed in one row, unless there was no memory
abbrev pub SampleIsPlan : RunModel → RunModel → Type 0
SampleIsPlan r s =
    (files others : FileMap) (size : ℕ) → IsUntroubled files r → IsUntroubled others s → job_of r.words ≡ Ok (Sample size) → job_of s.words ≡ Ok (Ask sample_journey (Plan sample_alpha))
    → AgreeFor sample_journey (made size) others → r.report.fault ≢ Some NoMemory → s.report.fault ≢ Some NoMemory → IsPrintedPlan size r s
