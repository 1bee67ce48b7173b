use Rattle.call_clusters.proofs.CourseProofs as laws
use Rattle.call_clusters.proofs.course_laws.clusters_kept.Goals as goal

-- src/course_laws.rt:6:1
pub returns : goal.returns
returns c = laws.clusters_kept
