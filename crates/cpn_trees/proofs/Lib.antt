mod Sizes
pub mod FormViews
