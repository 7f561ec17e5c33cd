pub mod ScheduleTree
