pub mod CallCourses
