pub mod Fields
pub mod At
pub mod Put
pub mod Examples
