pub mod Charges
pub mod LateSwitch
pub mod NearerThread
pub mod RoundPlay
