pub mod CourseLemmas
pub mod CourseProofs
