pub mod Signs
pub mod Printed
pub mod Numbers
