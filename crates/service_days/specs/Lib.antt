pub mod CalendarForms
pub mod Periods
pub mod Dates
pub mod Exceptions
pub mod Services
pub mod Calendars
pub mod Days
